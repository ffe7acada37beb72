-- Each run of the program that writes 42 writes it, is done and is ordered; each run of the one that waits ends in a
-- deadlock, and is ordered.
use Rattle.std.proofs.Common.{◌≡◌, ℕ, zero, suc, ◌<◌, List, [], ◌∷◌, Option, Some, None, refl, ◌∙◌, ap, subst}
use Rattle.std.proofs.Common.{slice_get, arith}
use Rattle.std.specs.Prelude.{codes}
use Rattle.sp_execute.specs.declared.execution.Ran.{Ran}
use Rattle.sp_execute.specs.Runs.{Executes}
use Rattle.sp_journal.specs.declared.entry.Way.{Way}
use Rattle.sp_journal.specs.declared.outcome.End.{End}
use Rattle.sp_journal.specs.declared.outcome.End.TheVariants as end
use Rattle.sp_journal.specs.declared.outcome.Verdict.{Verdict}
use Rattle.sp_journal.specs.declared.outcome.Verdict.TheVariants as verdict
use Rattle.sp_journal.specs.Births.{occurrences}
use Rattle.sp_journal.specs.Names.{Channel, Ended, Happening, Name, Offered, Opened, Occurrence}
use Rattle.sp_race.specs.Races.{IsFault, IsVerdict}
use Rattle.promise_rows.specs.Files.{root_waits}
use Rattle.promise_rows.proofs.WaitingRuns.{g as waiting_run, is_over as waits_over, two_entries}
use Rattle.promise_rows.proofs.OutputRuns.{g, is_over, one_end}

abbrev what_in : Option Occurrence → Happening
what_in None = Ended
what_in (Some o) = o.what

not_offered : (w : Way) (c : Channel) → Ended ≡ Offered w c → ⊥
not_offered w c e = cc e

none_offered : (k : ℕ) (x : Name) (w : Way) (c : Channel)
    → slice_get one_end k ≡ Some (record { who = x; what = Offered w c }) → ⊥
none_offered zero x w c e = not_offered w c (ap what_in e)
none_offered (suc k) x w c e = cc e

ordered : (es : List Occurrence) → es ≡ one_end → (x : End) → x ≡ end.Done → (v : Verdict) → IsVerdict es x v
    → v ≡ verdict.Ordered
ordered es e x f verdict.Ordered h = refl
ordered es e x f (verdict.Race w c i k) (_, (_, (channel, _, (r, _)))) =
    absurd (none_offered k r.second w channel
    (subst (λ ys. slice_get ys k ≡ Some (record { who = r.second; what = Offered w channel })) e
    r.offered_second))
ordered es e x f verdict.Unjudged h = absurd (subst IsFault f h)

pub record Writes42 (r : Ran) : Type 0 where
  pub output : r.closed.output ≡ codes "42"
  pub end : r.closed.end ≡ end.Done
  pub verdict : r.verdict ≡ verdict.Ordered
  pub journal : occurrences r.closed.journal ≡ one_end

pub writes : (workers : ℕ) (r : Ran) → Executes g workers r → Writes42 r
writes workers r x =
    let a = x.about in
    let o = is_over (occurrences r.closed.journal) a.steps a.state r.closed.end a.along a.end in
    record {
      output = a.output ∙ o.output;
      end = o.end;
      verdict = ordered (occurrences r.closed.journal) o.journal r.closed.end o.end r.verdict x.verdict;
      journal = o.journal;
    }

-- ---- the program that waits

no_offer : (k : ℕ) (x : Name) (w : Way) (c : Channel)
    → slice_get two_entries (suc (suc k)) ≡ Some (record { who = x; what = Offered w c }) → ⊥
no_offer k x w c e = cc e

open_not : (w : Way) (c : Channel) → Opened ≡ Offered w c → ⊥
open_not w c e = cc e

no_race : (i k : ℕ) → i < k → (x y : Name) (w : Way) (c : Channel)
    → slice_get two_entries i ≡ Some (record { who = x; what = Offered w c })
    → slice_get two_entries k ≡ Some (record { who = y; what = Offered w c }) → ⊥
no_race zero k h x y w c e f = open_not w c (ap what_in e)
no_race (suc zero) zero h x y w c e f = omega (arith, h)
no_race (suc zero) (suc zero) h x y w c e f = omega (arith, h)
no_race (suc zero) (suc (suc k)) h x y w c e f = no_offer k y w c f
no_race (suc (suc i)) k h x y w c e f = no_offer i x w c e

waits_ordered : (es : List Occurrence) → es ≡ two_entries → (x : End) → (IsFault x → ⊥) → (v : Verdict)
    → IsVerdict es x v → v ≡ verdict.Ordered
waits_ordered es e x f verdict.Ordered h = refl
waits_ordered es e x f (verdict.Race w c i k) (_, (_, (channel, _, (r, _)))) =
    absurd (no_race i k r.before r.first r.second w channel
    (subst (λ ys. slice_get ys i ≡ Some (record { who = r.first; what = Offered w channel })) e r.offered_first)
    (subst (λ ys. slice_get ys k ≡ Some (record { who = r.second; what = Offered w channel })) e r.offered_second))
waits_ordered es e x f verdict.Unjudged h = absurd (f h)

pub record WaitsForever (r : Ran) : Type 0 where
  pub output : r.closed.output ≡ []
  pub end : r.closed.end ≡ end.Deadlock (root_waits ∷ [])
  pub verdict : r.verdict ≡ verdict.Ordered

pub waits_forever : (workers : ℕ) (r : Ran) → Executes waiting_run workers r → WaitsForever r
waits_forever workers r x =
    let a = x.about in
    let o = waits_over (occurrences r.closed.journal) a.steps a.state r.closed.end a.along a.end in
    record {
      output = a.output ∙ o.output;
      end = o.end;
      verdict = waits_ordered (occurrences r.closed.journal) o.journal r.closed.end (λ f. subst IsFault o.end f)
          r.verdict x.verdict;
    }
