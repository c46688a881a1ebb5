-- `body_fields` is right because each field begins where the one before it ends.
use Rattle.std.proofs.lemmas.Result.{err_from_is_err_and}
use Rattle.stream.specs.Fields.{field}
use Rattle.stream.proofs.Streams.{one_more, fault_at, last_of}
use Rattle.stream.proofs.body_fields.Goals as goal

pub returns-in_err-first : goal.returns-in_err-first
returns-in_err-first c =
    let s = c.args.s.now in
    let p = err_from_is_err_and c.from_residual-in_err-first.result c.from_residual-in_err-first.ensures.1 in
    rw (p.1, p.2)
    (one_more s _ (field 3 2) _ _ c.in_ok-black_level.ensures
    (one_more s _ (field 4 2) _ _ c.in_ok-mask.ensures
    (fault_at s _ (field 5 c.args.n) _ c.in_err-first.ensures)))

pub returns-in_err-second : goal.returns-in_err-second
returns-in_err-second c =
    let s = c.args.s.now in
    let p = err_from_is_err_and c.from_residual-in_err-second.result c.from_residual-in_err-second.ensures.1 in
    rw (p.1, p.2)
    (one_more s _ (field 3 2) _ _ c.in_ok-black_level.ensures
    (one_more s _ (field 4 2) _ _ c.in_ok-mask.ensures
    (one_more s _ (field 5 c.args.n) _ _ c.in_ok-first.ensures
    (fault_at s _ _ _ c.in_err-second.ensures))))

pub returns-in_err-last : goal.returns-in_err-last
returns-in_err-last c =
    let s = c.args.s.now in
    let p = err_from_is_err_and c.from_residual-in_err-last.result c.from_residual-in_err-last.ensures.1 in
    rw (p.1, p.2)
    (one_more s _ (field 3 2) _ _ c.in_ok-black_level.ensures
    (one_more s _ (field 4 2) _ _ c.in_ok-mask.ensures
    (one_more s _ (field 5 c.args.n) _ _ c.in_ok-first.ensures
    (one_more s _ _ _ _ c.in_ok-second.ensures
    (fault_at s _ _ _ c.in_err-last.ensures)))))

pub returns : goal.returns
returns c =
    let s = c.args.s.now in
    one_more s _ (field 3 2) _ _ c.in_ok-black_level.ensures
    (one_more s _ (field 4 2) _ _ c.in_ok-mask.ensures
    (one_more s _ (field 5 c.args.n) _ _ c.in_ok-first.ensures
    (one_more s _ _ _ _ c.in_ok-second.ensures
    (one_more s _ _ _ _ c.in_ok-last.ensures
    (last_of s _ (field 0 0) c.field-6.ensures)))))
