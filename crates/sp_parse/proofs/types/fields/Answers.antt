use Rattle.std.proofs.Common.{[], ◌∷◌, ◌++◌, ◌∙◌, ap, append_assoc, refl, rules, Some, None, cond, sym as back_of}
use Rattle.std.proofs.lemmas.List.{append-nil}
use Rattle.sp_tree.specs.Words as w
use Rattle.sp_tree.specs.declared.token.Kind.TheVariants as kind
use Rattle.sp_tree.specs.Symbols.{MoreFields}
use Rattle.sp_tree.specs.Table as row
use Rattle.sp_tree.specs.Table.{row_entry, kind_is}
use Rattle.sp_parse.specs.BlockProductions.{group}
use Rattle.sp_parse.proofs.Pending.{begin, say, read_as, keep, close, pass_row, passed, not_passed, went_on, closed}
use Rattle.sp_parse.proofs.Turns.{name_turn, none_if}
use Rattle.sp_parse.proofs.types.fields.Goals as goal

pub more-init : goal.more-init
more-init c = say (λ vs. ap (λ l. l ++ record { names = vs.0 ∷ vs.1.0; kind = vs.1.1.1.0 } ∷ vs.1.1.1.1.0)
    c.new-all.ensures)
    (begin c.requires)

pub returns-then-not-goes_on : goal.returns-then-not-goes_on
returns-then-not-goes_on c = say (λ _. back_of (append-nil c.push.new.all)) (close [] row.fields_end refl refl
    (λ t n. ap (λ x. cond (kind_is w.End t.kind) (Some (row_entry _ _ row.fields_end))
    (cond x (Some (row_entry _ _ row.fields_go_on)) None)) n) (λ t. refl) (keep (λ vs. c.push.new.all ++ vs.0)
    (read_as group.symbols (MoreFields ∷ [])
    (λ vs. c.more.all ++ c.group-next.result ∷ vs.0) c.more.invariant c.group-next.ensures
    (λ us same vs. ap (λ g. c.more.all ++ g ∷ vs.0) same)) c.push.ensures
    (λ p vs. ap (λ l. l ++ vs.0) p ∙ append_assoc c.more.all (c.group-next.result ∷ []) vs.0))
    (closed c.goes_on.ensures (search rules)))

pub returns-then-pass : goal.returns-then-pass
returns-then-pass c = say (λ _. back_of (append-nil c.push.new.all)) (pass_row [] row.no_field refl refl
    (pass_row [] row.fields_go_on refl refl (keep (λ vs. c.push.new.all ++ vs.0) (read_as group.symbols (MoreFields ∷
    [])
    (λ vs. c.more.all ++ c.group-next.result ∷ vs.0) c.more.invariant c.group-next.ensures
    (λ us same vs. ap (λ g. c.more.all ++ g ∷ vs.0) same)) c.push.ensures
    (λ p vs. ap (λ l. l ++ vs.0) p ∙ append_assoc c.more.all (c.group-next.result ∷ []) vs.0)) (went_on _
    c.goes_on.ensures (search rules)))
    (passed c.pass.ensures c.if-pass.true))

pub more-preserved : goal.more-preserved
more-preserved c = let h = not_passed c.pass.ensures c.if-pass.false in
    name_turn row.next_field refl refl (λ (name, (more, (_, (kind, (groups, _))))).
    record { names = name ∷ more; kind = kind } ∷ groups) (λ t vs. refl) []
    (pass_row [] row.fields_go_on refl refl (keep (λ vs. c.push.new.all ++ vs.0) (read_as group.symbols (MoreFields ∷
    [])
    (λ vs. c.more.all ++ c.group-next.result ∷ vs.0) c.more.invariant c.group-next.ensures
    (λ us same vs. ap (λ g. c.more.all ++ g ∷ vs.0) same)) c.push.ensures
    (λ p vs. ap (λ l. l ++ vs.0) p ∙ append_assoc c.more.all (c.group-next.result ∷ []) vs.0)) (went_on _
    c.goes_on.ensures (search rules)))
    h.looks (λ fine n. none_if _ (h.differs fine) (none_if _ n refl)) refl
