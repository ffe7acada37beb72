-- From what is known of a text to what its journals are told by, and to the text of their entries.
use Rattle.std.proofs.Common.{◌≡◌, inl, inr, ℕ, List, Result, Ok, Err, refl, sym, ◌∙◌, ap, subst}
use Rattle.sp_base.specs.declared.limits.Limits.{Limits}
use Rattle.sp_code.specs.declared.code.Parts.{Parts}
use Rattle.sp_code.specs.Sound.{run_of}
use Rattle.sp_execute.specs.TextTold.{IsToldInText}
use Rattle.sp_front.specs.TextMarks.{IsMarked}
use Rattle.sp_front.specs.declared.marks.MarkedText.{MarkedText}
use Rattle.sp_journal.specs.Births.{births}
use Rattle.sp_journal.specs.declared.entry.Journal.{Journal}
use Rattle.sp_kernel.specs.Kernels.{system_of}
use Rattle.sp_lines.specs.Marks.{marks}
use Rattle.sp_lines.specs.EntryPlaces.{lasts_after}
use Rattle.sp_lines.specs.declared.mark.Mark.{Mark}
use Rattle.sp_replay.specs.TraceAnswers.{TracedTo, never}
use Rattle.sp_replay.specs.declared.trace.Traced.{Traced}
use Rattle.sp_lines.specs.Constants.{by_kind, constants_of}
use Rattle.sp_tree.specs.CheckedOf.{program_of}
use Rattle.sp_tree.specs.PlainChecked as c
use Rattle.sp_where.specs.StateVariables.{Known}
use Rattle.sp_where.specs.States.{where_text}
use Rattle.sp_where.specs.Traces.{trace_text}
use Rattle.sp_where.specs.declared.symbols.Symbols.{Symbols}
use Rattle.sp_words.specs.declared.requests.View.{View}
use Rattle.sp_words.specs.declared.requests.View.TheVariants as view
use Rattle.superpascal.specs.declared.ending.Ending.{Ending}
use Rattle.superpascal.specs.declared.teller.Account.{Account}
use Rattle.superpascal.specs.declared.teller.Teller.{Teller}
use Rattle.superpascal.specs.declared.teller.Teller.TheVariants as teller
use Rattle.superpascal.specs.AnswerParts.{HasCode}
use Rattle.superpascal.specs.Causes.{Files, IsKnownAs}
use Rattle.superpascal.specs.Steps.{AccountsFor, GivesMarked, HasSymbols, HasTeller, MarksTo}
use Rattle.superpascal.specs.Texts.{FirstBroken}
use Rattle.superpascal.specs.Traces.{IsStateOf, IsToldOf, IsTraceOf}
use Rattle.superpascal.proofs.Parts.{when_told}

-- of the text under a name
pub given_marked : (f : Files) (name text : List ℕ) → IsKnownAs (f.held name) text → (r : Result MarkedText Ending)
    → MarksTo text r → GivesMarked f name r
given_marked f name text t (Ok m) is = (text, t, is)
given_marked f name text t (Err x) (inl (r, h, b)) = inl
    (r, h, when_told (λ y. FirstBroken y r) (f.held name) text t b)
given_marked f name text t (Err x) (inr h) = inr (inr h)

-- the code of a text that is known
pub marked_code : (text : List ℕ) (m : MarkedText) → IsMarked text m → HasCode text (program_of m.checked) m.code
marked_code text m h = record { has = record { accepted = h.accepted; short = h.short }; code = h.code }

-- the code as it is held
pub held_code : (held code : Parts) → held ≡ code → (text : List ℕ) (tree : c.Program) → HasCode text tree code
    → HasCode text tree held
held_code held code same text tree has = subst (λ (x : Parts). HasCode text tree x) (sym same) has

-- its tree, marks and names
abbrev pub marked_by : MarkedText → Symbols
marked_by m = record { checked = m.checked; marks = m.marks; constants = m.constants }

pub marked_symbols : (text : List ℕ) (m : MarkedText) → IsMarked text m
    → HasSymbols text (program_of m.checked) (marked_by m)
marked_symbols text m h = record {
  checked = refl;
  marks = h.marks;
  syntax = h.constants.0;
  spelt = h.constants.1;
  constants = h.constants.2;
}

-- ---- what is written

module _ (text input : List ℕ) (limits : Limits) (j : Journal) where
  -- what the program wrote
  pub output_told : (tree : c.Program) (v : View) (t : Teller) → t ≡ teller.Output → HasTeller text tree v t
      → (r : Result Account Ending) → AccountsFor view.Output text input limits j r
      → AccountsFor v text input limits j r
  output_told tree v t i h r told = go v (subst (HasTeller text tree v) i h)
    where
      go : (v : View) → HasTeller text tree v teller.Output → AccountsFor v text input limits j r
      go view.Output k = told
      go view.Entries k = absurd k
      go view.State k = absurd k

  -- what was asked for is told
  pub entries_told : (tree : c.Program) (v : View) (t : Teller) (y : Symbols) → t ≡ teller.Entries y
      → HasTeller text tree v t → (r : Result Account Ending)
      → (HasSymbols text tree y → AccountsFor view.Entries text input limits j r) → AccountsFor v text input limits j r
  entries_told tree v t y i h r told = go v (subst (HasTeller text tree v) i h)
    where
      go : (v : View) → HasTeller text tree v (teller.Entries y) → AccountsFor v text input limits j r
      go view.Output k = absurd k
      go view.Entries k = told k
      go view.State k = absurd k

  pub state_told : (tree : c.Program) (v : View) (t : Teller) (y : Symbols) → t ≡ teller.State y
      → HasTeller text tree v t → (r : Result Account Ending)
      → (HasSymbols text tree y → AccountsFor view.State text input limits j r) → AccountsFor v text input limits j r
  state_told tree v t y i h r told = go v (subst (HasTeller text tree v) i h)
    where
      go : (v : View) → HasTeller text tree v (teller.State y) → AccountsFor v text input limits j r
      go view.Output k = absurd k
      go view.Entries k = absurd k
      go view.State k = told k

  module _ (tree : c.Program) (code : Parts) (has : HasCode text tree code) (y : Symbols) (is : HasSymbols text tree y)
      (t : Traced) (traced : TracedTo (run_of code input limits) j.entries t)
      (in_text : IsToldInText tree (run_of code input limits) j.entries t) where
    abbrev told_of_text : IsToldOf text input limits j t.told
    told_of_text = record {
      tree = tree;
      has = has.has;
      code = code;
      is_code = has.code;
      state = system_of t.state.kernel;
      is_told = traced.told;
      placed = record { each = in_text.each; entries = in_text.entries; faults = in_text.faults };
    }

    -- the text of the entries
    pub trace_is : (out : List ℕ) → out ≡ trace_text y.checked.kinds y.constants y.marks j.entries t.told
        → IsTraceOf text input limits j out
    trace_is out o = record {
      told = t.told;
      of = told_of_text;
      syntax = is.syntax;
      spelt = is.spelt;
      is_text = o
          ∙ (ap (λ (cs : List (List (List ℕ))). trace_text y.checked.kinds cs y.marks j.entries t.told) is.constants
          ∙ (ap (λ (ms : List Mark). trace_text y.checked.kinds (by_kind y.checked.kinds (constants_of is.syntax)) ms
          j.entries t.told) is.marks
          ∙ ap (λ (p : c.Program). trace_text p.kinds (by_kind p.kinds (constants_of is.syntax)) (marks tree) j.entries
          t.told) is.checked));
    }

    -- the text of the state
    abbrev known_with : c.Program → List (List (List ℕ)) → List Mark → Known
    known_with p cs ms = record { tree = p; constants = cs; marks = ms; code = code; births = births j.entries }

    abbrev where_with : c.Program → List (List (List ℕ)) → List Mark → List ℕ
    where_with p cs ms = where_text (known_with p cs ms) j.entries (lasts_after j.entries t.told never)
        (system_of t.state.kernel).condition

    pub where_is : (out : List ℕ) → out ≡ where_with (program_of y.checked) y.constants y.marks
        → IsStateOf text input limits j out
    where_is out o = record {
      told = t.told;
      of = told_of_text;
      syntax = is.syntax;
      spelt = is.spelt;
      shown = record { waiting = in_text.waiting; running = in_text.running };
      is_text = o
          ∙ (ap (λ (cs : List (List (List ℕ))). where_with (program_of y.checked) cs y.marks) is.constants
          ∙ (ap (λ (ms : List Mark). where_with (program_of y.checked)
          (by_kind y.checked.kinds (constants_of is.syntax)) ms) is.marks
          ∙ ap (λ (p : c.Program). where_with p (by_kind p.kinds (constants_of is.syntax)) (marks tree)) is.checked));
    }
