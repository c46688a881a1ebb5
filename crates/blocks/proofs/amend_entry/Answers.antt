-- `amend_entry` is right because it writes one entry, and where there is no place none.
use Rattle.blocks.proofs.Entries.{amended-set, amended-none}
use Rattle.blocks.proofs.amend_entry.Goals as goal

pub returns-in-Some : goal.returns-in-Some
returns-in-Some c = rw c.in-Some.is (amended-set _ _ _ c.args.entries.now _ (c.requires _ c.in-Some.is) c.amend.ensures)

pub returns-in_default : goal.returns-in_default
returns-in_default c = rw c.in_default.is (amended-none _ _ c.args.entries.now)
