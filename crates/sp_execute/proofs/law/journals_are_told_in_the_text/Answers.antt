use Rattle.std.proofs.Common.{sym, subst}
use Rattle.sp_code.specs.declared.code.Parts.{Parts}
use Rattle.sp_code.specs.PlainStore.{plain}
use Rattle.sp_code.specs.Sound.{IsSound, run_of}
use Rattle.sp_code.specs.System.{opening_system}
use Rattle.sp_kernel.specs.Kernels.{system_of}
use Rattle.sp_link.proofs.Soundness.{program_sound}
use Rattle.sp_tree.specs.Bare.{without_places}
use Rattle.sp_execute.specs.Runs.{run_input}
use Rattle.sp_execute.proofs.TextTold.{each_told, entries_told, faults_told}
use Rattle.sp_execute.proofs.law.journals_are_told_in_the_text.Goals as goal

pub returns : goal.returns
returns c = λ p moves shares input lim code is es r traced.
    let g = run_of code input lim in
    let start = opening_system plain g in
    let t = system_of r.state.kernel in
    let sound = subst (λ (x : Parts). IsSound x) (sym is.emitted)
    (program_sound (run_input (without_places p) input lim) moves shares is.ready) in
    record {
      each = each_told p moves shares g is.emitted es r.told start t traced.told;
      entries = entries_told p moves shares g is.emitted es r.told start t traced.told;
      faults = faults_told p moves shares g is.emitted es r.told start t traced.told;
      waiting = c.waiting_processes_are_shown.ensures p moves shares g is.emitted es r.told t traced.told;
      running = λ q d works fits. c.landings_have_marks.ensures p moves shares g d is.emitted
          ((sound.safe input lim is.ready.limits es t traced.along).turns q d works) fits;
    }
