-- The stores of verified code are held apart.
use Rattle.std.proofs.Common.{ℕ, List}
use Rattle.sp_base.specs.declared.limits.Limits.{Limits}
use Rattle.sp_cell.specs.Map.{Plain}
use Rattle.sp_journal.specs.declared.entry.Entry.{Entry}
use Rattle.sp_code.specs.declared.code.Parts.{Parts}
use Rattle.sp_code.specs.PlainStore.{plain}
use Rattle.sp_code.specs.Sizes.{KeepsSizes}
use Rattle.sp_code.specs.Sound.{AreLimits, Held, run_of}
use Rattle.sp_code.specs.System.{System, IsSystem}
use Rattle.sp_verify_rules.specs.Verdict.{V9, IsVerified}
use Rattle.sp_verify_rules.proofs.Assembly.{k, e, known}
use Rattle.sp_verify_rules.proofs.EntriesKeepApart.{along, elder}
use Rattle.sp_verify_rules.proofs.Sides.{partition}

pub verified_held : (c : Parts) → KeepsSizes c → IsVerified c → (input : List ℕ) (lim : Limits) → AreLimits lim
    → (es : List Entry) (s : System Plain) → IsSystem plain (run_of c input lim) es s → Held s
verified_held c sizes v input lim within es s is =
    let g = run_of c input lim in
    let w = along g (k c sizes v) (e c sizes v) (known c sizes v) within.depth (v V9) es s is in
    partition s.condition s.births.birth w.1
    (elder g (k c sizes v) (e c sizes v) (known c sizes v) within.depth (v V9) s.condition s.births w.0)
    s.births.processes 0
