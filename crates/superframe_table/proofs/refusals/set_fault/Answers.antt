-- `set_fault` goes down the chain of the definition; the verdict has the set's own refusal. Assumes nothing.
use mathlib.Core.Path.{refl, sym, ap, ◌∙◌}
use mathlib.Core.Bool.{not}
use Rattle.std.proofs.lemmas.Result.{err_from_is_err_and}
use Rattle.laws.specs.Judged.{checked_err, err_of, ok_of}
use Rattle.superframe_table.specs.SetFaults.{verdict_passes, neither_by, set_refused, set_not_admitted, set_late, set_none}
use Rattle.superframe_table.proofs.refusals.set_fault.Goals as goal

pub returns-in_err-check : goal.returns-in_err-check
returns-in_err-check c =
    let v = c.verdict-v in
    let w = checked_err v.result.fault c.check.ensures c.in_err-check.was in
    let p = err_from_is_err_and c.from_residual.result c.from_residual.ensures.1 in
    rw (p.1, p.2) (err_of _ _ w.1 (w.0 ∙ set_refused _ v.result v.ensures.answer (rw w.0 at w.1)))

pub returns-then-not-admits : goal.returns-then-not-admits
returns-then-not-admits c =
    let v = c.verdict-v in
    let g = verdict_passes _ v.result v.ensures.answer c.check.ensures c.in_ok-check.was in
    let n = neither_by _ v.result c.admits.result v.ensures.answer c.admits.ensures ∙ ap not c.if-not-admits.true in
    err_of _ _ (rw c.of.ensures refl) (c.of.ensures ∙ set_not_admitted _ g n)

pub starts_late-requires : goal.starts_late-requires
starts_late-requires c =
    let v = c.verdict-v in
    verdict_passes _ v.result v.ensures.answer c.check.ensures c.in_ok-check.was

pub returns-then-starts_late : goal.returns-then-starts_late
returns-then-starts_late c =
    let v = c.verdict-v in
    let g = verdict_passes _ v.result v.ensures.answer c.check.ensures c.in_ok-check.was in
    let n = neither_by _ v.result c.admits.result v.ensures.answer c.admits.ensures ∙ ap not c.if-not-admits.false in
    let f = c.of-then-starts_late.ensures in
    err_of _ _ (rw f refl) (f ∙ set_late _ g n (sym c.starts_late.ensures ∙ c.if-starts_late.true))

pub returns : goal.returns
returns c =
    let v = c.verdict-v in
    let g = verdict_passes _ v.result v.ensures.answer c.check.ensures c.in_ok-check.was in
    let n = neither_by _ v.result c.admits.result v.ensures.answer c.admits.ensures ∙ ap not c.if-not-admits.false in
    ok_of _ (set_none _ g n (sym c.starts_late.ensures ∙ c.if-starts_late.false))
