use Rattle.std.proofs.Common.{[], ◌∷◌, ◌++◌, ap, ◌∙◌, sym as back_of, append_assoc, rules, refl}
use Rattle.std.proofs.lemmas.List.{append-nil}
use Rattle.sp_tree.specs.Table as row
use Rattle.sp_parse.proofs.Pending.{begin, say, read, keep, pass_row, leave_at, passed, not_passed}
use Rattle.sp_parse.proofs.Turns.{none_if}
use Rattle.sp_parse.proofs.names.names.Goals as goal

pub more-init : goal.more-init
more-init c = say (λ vs. ap (λ l. l ++ vs.0 ∷ vs.1.0) c.new-all.ensures) (begin c.requires)

pub returns-then-not-pass : goal.returns-then-not-pass
returns-then-not-pass c = say (λ _. back_of (append-nil c.push.new.all)) (leave_at
    (keep (λ vs. c.push.new.all ++ vs.0) (read c.more.invariant c.name-next.ensures) c.push.ensures
    (λ p vs. ap (λ l. l ++ vs.0) p ∙ append_assoc c.more.all (c.name-next.result ∷ []) vs.0))
    (not_passed c.pass.ensures (search rules)) (λ t n. none_if _ n refl) refl)

pub more-preserved : goal.more-preserved
more-preserved c = pass_row [] row.next_name refl refl
    (keep (λ vs. c.push.new.all ++ vs.0) (read c.more.invariant c.name-next.ensures) c.push.ensures
    (λ p vs. ap (λ l. l ++ vs.0) p ∙ append_assoc c.more.all (c.name-next.result ∷ []) vs.0))
    (passed c.pass.ensures (search rules))
