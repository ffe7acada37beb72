-- The run of the code of a file: it is sound, and where `build` wrote the file for a text, it runs as the text's
-- program means. It leads from `run_code_file` to the run of a code file.
use Rattle.std.proofs.Common.{◌≡◌, ℕ, List, Result, Ok, Err, sym, subst}
use Rattle.std.specs.Prelude.{IfOk}
use Rattle.sp_base.specs.declared.halt.Memory.{Memory}
use Rattle.sp_base.specs.declared.limits.Limits.{Limits}
use Rattle.sp_code.specs.declared.code.Parts.{Parts}
use Rattle.sp_code.specs.Sizes.{KeepsSizes}
use Rattle.sp_code.specs.Sound.{IsSound}
use Rattle.sp_codefile.specs.CodeText.{IsTextOf}
use Rattle.sp_execute.specs.Machines.{RunsCode}
use Rattle.sp_generate.specs.GeneratorAnswers.{IsCodeOf}
use Rattle.sp_kernel.specs.declared.closed.Closed.{Closed}
use Rattle.sp_verify_rules.specs.Verdict.{IsVerified}
use Rattle.sp_tree.specs.Bare.{without_places}
use Rattle.sp_words.specs.Ranges.{IsInRange}
use Rattle.superpascal.specs.AnswerParts.{HasCode}
use Rattle.superpascal.specs.Executions.{IsExecutionOf, IsMeantBy}
use Rattle.superpascal.specs.Texts.{IsCodeFile, IsFileOf}
use Rattle.superpascal.proofs.RunFacts.{ReadyLaw, ready_code}

-- the law of verified code
abbrev pub SoundLaw : Type 0
SoundLaw = (c : Parts) → KeepsSizes c → IsVerified c → IsSound c

-- the law of code files
abbrev pub TextLaw : Type 0
TextLaw = (p q : Parts) (bytes : List ℕ) → IsTextOf p bytes → IsTextOf q bytes → p ≡ q

module _ (ready : ReadyLaw) (one : TextLaw) (code : Parts) (input : List ℕ) (workers : ℕ) (lim : Limits)
    (range : IsInRange workers lim) where
  -- a run of the code is one of the text that `build` has written as this file
  meant_by : (bytes : List ℕ) → IsFileOf code bytes → (r : Closed) → RunsCode code input lim workers r → (text : List ℕ)
      → IsCodeFile text bytes → IsMeantBy text input lim r
  meant_by bytes file r runs text ((p, accepted, short, other, is, written), small) =
      let same : other ≡ code = one other code bytes written file.text in
      let has : HasCode text p code = record {
        has = record { accepted = accepted; short = short };
        code = subst
            (IsCodeOf (without_places p)) same is;
      } in
      let fit = ready_code ready code input workers lim range text p has in
      record { tree = p; has = has.has; about = runs.program (without_places p) has.code.0.moves has.code.0.shares fit }

  -- of the code and the input as the run holds them
  module _ (held : Parts) (read : List ℕ) (h : held ≡ code) (i : read ≡ input) where
    pub sound_held : SoundLaw → ((bytes : List ℕ) × IsFileOf code bytes) → IsSound held
    sound_held sound (bytes, file) = subst (λ (x : Parts). IsSound x) (sym h)
        (sound code file.text.code.sizes file.verified)

    pub execution_if : (r : Result Closed Memory) → IfOk r (RunsCode held read lim workers)
        → IfOk r (λ e. (bytes : List ℕ) → IsFileOf code bytes → IsExecutionOf bytes input lim e)
    execution_if (Ok e) runs = λ bytes file.
        let here = subst (λ (z : List ℕ × Parts). RunsCode z.1 z.0 lim workers e) (λ k. (i k, h k)) runs in
        record { code = code; file = file; gives = here.machine.gives; meant = meant_by bytes file e here }
    execution_if (Err x) runs = tt
