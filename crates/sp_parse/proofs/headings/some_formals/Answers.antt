use Rattle.std.proofs.Common.{[], ◌∷◌, ◌++◌, ◌∙◌, ap, append_assoc, refl, rules, Some, None, cond, sym as back_of}
use Rattle.std.proofs.lemmas.List.{append-nil}
use Rattle.sp_tree.specs.Words as w
use Rattle.sp_tree.specs.Table as row
use Rattle.sp_tree.specs.Table.{row_entry, kind_is}
use Rattle.sp_parse.proofs.Pending.{begin, say, read, keep, close, pass_row, went_on, closed}
use Rattle.sp_parse.proofs.headings.some_formals.Goals as goal

pub more-init : goal.more-init
more-init c = say (λ (formal, (more, _)). ap (λ l. l ++ formal ∷ more) c.new-all.ensures) (begin c.requires)

pub returns-then-not-goes_on : goal.returns-then-not-goes_on
returns-then-not-goes_on c = say (λ _. back_of (append-nil c.push.new.all)) (close [] row.formals_end refl refl
    (λ t n. ap (λ x. cond (kind_is w.Close t.kind) (Some (row_entry _ _ row.formals_end))
    (cond x (Some (row_entry _ _ row.next_formal)) None)) n) (λ t. refl) (keep (λ vs. c.push.new.all ++ vs.0) (read
    c.more.invariant c.formal-next.ensures) c.push.ensures
    (λ p vs. ap (λ l. l ++ vs.0) p ∙ append_assoc c.more.all (c.formal-next.result ∷ []) vs.0))
    (closed c.goes_on.ensures (search rules)))

pub more-preserved : goal.more-preserved
more-preserved c = pass_row [] row.next_formal refl refl (keep (λ vs. c.push.new.all ++ vs.0) (read c.more.invariant
    c.formal-next.ensures) c.push.ensures
    (λ p vs. ap (λ l. l ++ vs.0) p ∙ append_assoc c.more.all (c.formal-next.result ∷ []) vs.0)) (went_on _
    c.goes_on.ensures (search rules))
