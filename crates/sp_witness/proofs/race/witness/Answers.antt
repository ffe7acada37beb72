use Rattle.std.proofs.Common.{◌≡◌, ◌<◌, length, take, get_or, None, Some, slice_get, sym, ap, ◌∙◌, subst, arith}
use Rattle.std.specs.Option.{IfSome}
use Rattle.std.proofs.lemmas.Option.{slice_get-get_or}
use Rattle.std.proofs.lemmas.Result.{IfOk-weaker}
use Rattle.sp_journal.specs.declared.entry.Entry.{Entry}
use Rattle.sp_journal.specs.declared.entry.Journal.{Journal}
use Rattle.sp_journal.specs.Births.{first_births, IsNameable, NameableFrom}
use Rattle.sp_journal.proofs.Walk.{any_entry}
use Rattle.sp_witness.specs.TableNumbers.{IsPlain}
use Rattle.sp_witness.specs.OccurrenceNumbers.{witness_journal}
use Rattle.sp_witness.proofs.WitnessOfCode.{length-marks, front_nameable, front_of, plain_at, whole}
use Rattle.sp_witness.proofs.race.witness.Goals as goal

pub ties_of-requires : goal.ties_of-requires
ties_of-requires c =
    front_nameable c.items-entries.result.now c.args.later
    (subst (NameableFrom first_births) (sym c.items-entries.ensures) c.requires.nameable)

pub marks_of-requires-clause-its_front : goal.marks_of-requires-clause-its_front
marks_of-requires-clause-its_front c =
    front_of c.items-entries.result.now c.args.later c.in_ok-ledger.ledger.journal.entries
    (ap (λ (j : Journal). j.entries) c.in_ok-ledger.ensures.1 ∙ sym c.items-entries.ensures)

pub marks_of-requires-clause-nameable : goal.marks_of-requires-clause-nameable
marks_of-requires-clause-nameable c =
    front_nameable c.items-entries.result.now c.args.later
    (subst (NameableFrom first_births) (sym c.items-entries.ensures) c.requires.nameable)

pub renumbered-requires-clause-nameable : goal.renumbered-requires-clause-nameable
renumbered-requires-clause-nameable c =
    front_nameable c.items-entries.result.now c.args.later
    (subst (NameableFrom first_births) (sym c.items-entries.ensures) c.requires.nameable)

pub renumbered-requires-clause-marks : goal.renumbered-requires-clause-marks
renumbered-requires-clause-marks c =
    ap length (c.deref.ensures.value ∙ c.in_ok-marks.ensures)
    ∙ length-marks c.args.earlier (get_or c.items-entries.result.now c.args.later any_entry).process first_births
    (λ d. None) 0
    (take c.args.later c.items-entries.result.now)

pub returns : goal.returns
returns c =
    let j = c.args.journal.now in
    let es = c.items-entries.result.now in
    let is : es ≡ j.entries = c.items-entries.ensures in
    let l = ap length is in
    let order = c.requires.order in
    let inside = c.requires.inside in
    let first : c.args.earlier < length es = omega (arith, l, order, inside) in
    let second : c.args.later < length es = omega (arith, l, inside) in
    let one : Entry = get_or es c.args.earlier any_entry in
    let two : Entry = get_or es c.args.later any_entry in
    let got_one : slice_get j.entries c.args.earlier ≡ Some one =
    ap (λ xs. slice_get xs c.args.earlier) (sym is) ∙ slice_get-get_or es c.args.earlier any_entry first in
    let got_two : slice_get j.entries c.args.later ≡ Some two =
    ap (λ xs. slice_get xs c.args.later) (sym is) ∙ slice_get-get_or es c.args.later any_entry second in
    let plain : IsPlain one.event =
    plain_at es c.args.earlier first
    (subst (λ xs. IfSome (slice_get xs c.args.earlier) (λ (e : Entry). IsPlain e.event)) (sym is)
    c.requires.offer) in
    let law =
    c.tables_number_the_witness.ensures j c.requires.nameable c.requires.silent c.requires.clean c.args.earlier
    c.args.later order
    one two got_one got_two plain c.requires.a_journal c.requires.its_names in
    IfOk-weaker c.renumbered.result _ _ (λ it h.
    let e : it ≡ witness_journal j c.args.earlier c.args.later =
    whole j c.args.earlier c.args.later (take c.args.later es) c.deref.result.now one two it (ap (take c.args.later) is)
    (c.deref.ensures.value ∙ c.in_ok-marks.ensures) h law in
    (e, subst IsNameable (sym e) c.requires.a_journal)) c.renumbered.ensures
