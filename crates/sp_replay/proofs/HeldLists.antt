-- Lists of processes that are held, by numbers.
use Rattle.std.proofs.Common.{◌≡◌, ℕ, ◌<◌, ◌==◌, cond, List}
use Rattle.std.proofs.Common.{length, slice_set, Option, ap, ◌∙◌}
use Rattle.sp_journal.specs.Maps.{at_key}
use Rattle.sp_machine.specs.declared.state.State.{State as Proc}
use Rattle.sp_kernel.proofs.Tables.{table_set}
use Rattle.sp_replay.specs.HeldProcesses.{in_place, held_at}

-- another process, or none, in a place
pub held_set : (held : List (Option Proc)) (n : ℕ) (o : Option Proc) → n < length held → (q : ℕ)
    → held_at (slice_set held n o) q ≡ at_key ◌==◌ n o (held_at held) q
held_set held n o l q = ap (λ (f : ℕ → Option Proc). f q) (table_set in_place held n o l)

-- the same, of a list with more places
pub held_then : (old held : List (Option Proc)) (n : ℕ) (o : Option Proc) → ((q : ℕ) → held_at held q ≡ held_at old q)
    → n < length held → (q : ℕ) → held_at (slice_set held n o) q ≡ at_key ◌==◌ n o (held_at old) q
held_then old held n o same l q = held_set held n o l q ∙ ap (λ (p : Option Proc). cond (n == q) o p) (same q)
