-- The lines of a whole frame, where each of its variables stands and may be read.
use Rattle.std.proofs.Common.{◌≡◌, ℕ, suc, ◌+◌, List, [], ◌∷◌, ◌++◌, Some, false, refl, sym, ap, ◌∙◌, subst}
use Rattle.std.proofs.Common.{arith, slice_get}
use Rattle.std.proofs.lemmas.Option.{same_Some}
use Rattle.sp_cell.specs.Map.{Plain}
use Rattle.sp_code.specs.declared.code.Formal.{Formal}
use Rattle.sp_code.specs.declared.code.Layout.{Layout}
use Rattle.sp_code.specs.Machine.{layout_of}
use Rattle.sp_code.specs.Memory.{Memory}
use Rattle.sp_code.specs.Memory as m
use Rattle.sp_meaning.specs.LocalWork.{Frame, Loc, RunInput}
use Rattle.sp_meaning.specs.Model.{Name}
use Rattle.sp_meaning.specs.Run.{Store}
use Rattle.sp_where.specs.StateVariables.{Known, address_by, first_variable, own_by_layout, own_lines, own_variables}
use Rattle.sp_where.specs.StateVariables.{variable_line}
use Rattle.sp_where.specs.Truth.{AreRead, FrameStands, MayRead, ProcessStands, Situation, VariableStands, line_at}
use Rattle.sp_where.specs.Truth.{line_of, lines_of}

module _ (w : Known) (g : RunInput) (may : Loc → Type 0) (s : Store) (k : Plain) (o : Frame) (f : m.Frame)
    (fs : List Formal) where
  -- one line
  line_is : (n x : ℕ) → VariableStands w g may s k false o f fs n x → AreRead w g s o may (x ∷ [])
      → variable_line w k x (address_by f n (slice_get fs n)) ≡ line_of w g s o x (slice_get w.tree.variables x)
  line_is n x v read =
      v.says (read.0 v.variable v.place v.known v.place_is)
      ∙ sym (ap (line_of w g s o x) v.known ∙ ap (line_at w g s o v.variable) v.place_is)

  -- these lines, which are those from number n on
  lines_are : (n : ℕ) (xs : List ℕ)
      → ((i x : ℕ) → slice_get xs i ≡ Some x → VariableStands w g may s k false o f fs (n + i) x)
      → AreRead w g s o may xs → own_lines w k f fs n xs ≡ lines_of w g s o xs
  lines_are n [] stand read = refl
  lines_are n (x ∷ xs) stand read =
      let here : n + 0 ≡ n = omega arith in
      ap (λ y. y ++ own_lines w k f fs (suc n) xs)
      (line_is n x (subst (λ y. VariableStands w g may s k false o f fs y x) here (stand 0 x refl)) (read.0, tt))
      ∙ ap (λ y. line_of w g s o x (slice_get w.tree.variables x) ++ y)
      (lines_are (suc n) xs
      (λ i y e. (let on : n + suc i ≡ suc n + i = omega arith in
      subst (λ z. VariableStands w g may s k false o f fs z y) on (stand (suc i) y e))) read.1)

-- of a frame for a block
pub frame_text : (w : Known) (g : RunInput) (may : Loc → Type 0) (s : Store) (k : Plain) (o : Frame) (f : m.Frame)
    → FrameStands w g may s k false o f → (b : ℕ) (l : Layout) → f.home ≡ m.OfBlock b
    → layout_of w.code.layouts b ≡ Some l → AreRead w g s o may l.variables
    → own_variables w k f f.home ≡ lines_of w g s o l.variables
frame_text w g may s k o f stands b l home found read =
    ap (own_variables w k f) home ∙ ap (own_by_layout w k f) found
    ∙ lines_are w g may s k o f l.formals (first_variable f.home) l.variables (stands.variables b l home found) read

-- of a process
pub process_text : (w : Known) (g : RunInput) (q : Name) (c : Situation) (s : Store) (n : Memory Plain)
    → (z : ProcessStands w g q c s n false) → (h : ℕ) (f : m.Frame) (o : Frame) → slice_get n.frames h ≡ Some f
    → slice_get z.process.own.frames h ≡ Some o → (b : ℕ) (l : Layout) → f.home ≡ m.OfBlock b
    → layout_of w.code.layouts b ≡ Some l → AreRead w g s o (MayRead g.program q c z.process) l.variables
    → own_variables w n.store f f.home ≡ lines_of w g s o l.variables
process_text w g q c s n z h f o there beside b l home found read =
    let y = z.agree.frames h f there in
    let same : y.0 ≡ o = same_Some y.0 o (sym y.1 ∙ beside) in
    frame_text w g (MayRead g.program q c z.process) s n.store o f
    (subst (λ i. FrameStands w g (MayRead g.program q c z.process) s n.store false i f) same y.2) b l home found read
