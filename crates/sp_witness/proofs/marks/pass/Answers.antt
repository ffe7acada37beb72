use Rattle.std.proofs.Common.{◌≡◌, ◌+◌, ◌<◌, ◌≤◌, ◌^◌, Some, slice_get, sym, ap, ◌∙◌, subst}
use Rattle.std.proofs.lemmas.Option.{slice_get-get_or}
use Rattle.sp_witness.specs.Passes.{flags_of_set}
use Rattle.sp_witness.proofs.Backwards.{mark_is, marked_is, flags_back, there, same_birth, children_fit}
use Rattle.sp_journal.proofs.Walk.{any_entry}
use Rattle.sp_witness.proofs.marks.pass.Goals as goal

pub is_needed-mark-requires-clause-there : goal.is_needed-mark-requires-clause-there
is_needed-mark-requires-clause-there c =
    there c.args.front.now c.requires.nameable c.args.at c.requires.inside c.args.ledger.now.journal.entries
    c.requires.its_front

pub is_needed-mark-requires-clause-few : goal.is_needed-mark-requires-clause-few
is_needed-mark-requires-clause-few c = λ n e.
    subst (λ f. f + n ≤ 2 ^ 32) (sym c.requires.first)
    (children_fit c.args.front.now c.requires.nameable c.args.at c.requires.inside n e)

pub returns-clause-mark : goal.returns-clause-mark
returns-clause-mark c = λ last has.
    let o = c.index-partner.result.now in
    let at_its : slice_get c.args.ties.now.partners.items c.args.at ≡ Some o =
    slice_get-get_or c.args.ties.now.partners.items c.args.at o
    (subst (λ n. c.args.at < n) (sym c.requires.partners.0) c.requires.inside)
    ∙ ap (λ y. Some y) (sym c.index-partner.ensures) in
    let met = c.requires.partners.1 c.args.at _ o
    (slice_get-get_or c.args.front.now c.args.at any_entry c.requires.inside) at_its in
    marked_is c.args.earlier last c.args.front.now c.args.at c.requires.inside c.is_needed-mark.result
    (c.is_needed-mark.ensures
    ∙ mark_is c.args.earlier last c.args.front.now c.args.at c.requires.inside (flags_of_set c.args.needed.now)
    has c.args.first c.requires.first o met _
    (same_birth c.args.front.now c.requires.nameable c.args.at c.requires.inside c.args.ledger.now.journal.entries
    c.requires.its_front))

pub returns-clause-flags : goal.returns-clause-flags
returns-clause-flags c = λ last has q.
    let o = c.index-partner.result.now in
    let at_its : slice_get c.args.ties.now.partners.items c.args.at ≡ Some o =
    slice_get-get_or c.args.ties.now.partners.items c.args.at o
    (subst (λ n. c.args.at < n) (sym c.requires.partners.0) c.requires.inside)
    ∙ ap (λ y. Some y) (sym c.index-partner.ensures) in
    let met = c.requires.partners.1 c.args.at _ o
    (slice_get-get_or c.args.front.now c.args.at any_entry c.requires.inside) at_its in
    flags_back c.args.earlier last c.args.front.now c.args.at c.requires.inside c.is_needed-mark.result
    (c.is_needed-mark.ensures
    ∙ mark_is c.args.earlier last c.args.front.now c.args.at c.requires.inside (flags_of_set c.args.needed.now)
    has c.args.first c.requires.first o met _
    (same_birth c.args.front.now c.requires.nameable c.args.at c.requires.inside c.args.ledger.now.journal.entries
    c.requires.its_front))
    o met (flags_of_set c.args.needed.now) (flags_of_set c.flag.new.needed) (flags_of_set c.flag_partner.new.needed)
    (flags_of_set c.flag-2.new.needed)
    has c.in_ok-flag.ensures c.in_ok-flag_partner.ensures c.in_ok-flag-2.ensures q
