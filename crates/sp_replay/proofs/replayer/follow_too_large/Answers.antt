use Rattle.std.proofs.Common.{rules, ◌≡◌, ◌==◌, List, [], ◌∷◌, length, true, false, Some, None, refl, sym, subst}
use Rattle.std.proofs.lemmas.List.{nil_from_length}
use Rattle.sp_journal.specs.declared.entry.Entry.{Entry}
use Rattle.sp_code.specs.Sound.{run_of}
use Rattle.sp_kernel.specs.FirstFaults.{first_fault, first_fault_end}
use Rattle.sp_replay.specs.Replays.{ReplayLeadsTo}
use Rattle.sp_replay.proofs.TooLarge.{nothing_yet, at_second, at_end}
use Rattle.sp_replay.proofs.replayer.follow_too_large.Goals as goal

pub returns-in_default : goal.returns-in_default
returns-in_default c = λ code input lim large.
    let none : c.args.entries.now ≡ [] = nil_from_length c.args.entries.now c.in_default.ensures.cases in
    let written : c.of-output.result ≡ [] = search rules in
    subst (λ (es : List Entry). ReplayLeadsTo (run_of code input lim) es
    (record { end = None; output = c.of-output.result })) (sym none)
    (nothing_yet code input lim (record { end = None; output = c.of-output.result }) refl written)

pub returns-then-not-is_empty : goal.returns-then-not-is_empty
returns-then-not-is_empty c = λ code input lim large.
    let some : c.args.entries.now ≡ c.in-Some.first.now ∷ c.in-Some.rest.now = search rules in
    let fault : c.in-Some.first.now ≡ first_fault = search rules in
    let more : length c.in-Some.rest.now == 0 ≡ false = search rules in
    at_second code input lim c.args.entries.now c.in-Some.first.now c.in-Some.rest.now large some fault more

pub returns : goal.returns
returns c = λ code input lim large.
    let some : c.args.entries.now ≡ c.in-Some.first.now ∷ c.in-Some.rest.now = search rules in
    let fault : c.in-Some.first.now ≡ first_fault = search rules in
    let no_more : length c.in-Some.rest.now == 0 ≡ true = search rules in
    let end : Some c.first_fault_end.result ≡ Some first_fault_end = search rules in
    let written : c.of-output.result ≡ [] = search rules in
    at_end code input lim c.args.entries.now c.in-Some.first.now c.in-Some.rest.now
    (record { end = Some c.first_fault_end.result; output = c.of-output.result }) large some fault no_more end written
