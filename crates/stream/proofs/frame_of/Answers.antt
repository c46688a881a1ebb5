-- `frame_of` is right because the part of the array that is lent has the window's length, and all of it is written.
use Rattle.std.proofs.Common.{rules}
use Rattle.stream.proofs.Frames.{front, front_ok}
use Rattle.stream.proofs.frame_of.Goals as goal

pub unwrap-requires : goal.unwrap-requires
unwrap-requires c = rw (c.unpack_raw10.ensures.answer, ← front_ok c.args.width c.args.height c.sites-n.result c.args.body.now c.args.frame.now c.sites-n.ensures.0 c.requires.0 c.told-frame c.requires.1)

pub returns : goal.returns
returns c = front c.args.width c.args.height c.sites-n.result c.args.body.now c.unpack_raw10.new.out c.args.frame.now
    c.sites-n.ensures.0 c.requires.0 c.told-frame c.requires.1 c.unpack_raw10.ensures.buffer
