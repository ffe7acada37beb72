-- One instruction of a process that stands and has what the instruction needs is fine: it lacks nothing, and where the
-- process goes on it stands again.
use Rattle.std.proofs.Common.{◌≡◌, ◌⊎◌, inl, inr, ℕ, zero, suc, ◌+◌, ◌*◌, ◌-◌, ◌≤◌, ◌==◌, ℤ, List, [], ◌∷◌, ◌++◌}
use Rattle.std.proofs.Common.{length, Option, Some, None, Bool, true, false, if◌then◌else◌, ◌&&◌, refl, sym, ap, ◌∙◌}
use Rattle.std.proofs.Common.{subst, eqb-true, ⊎_elim, arith}
use Rattle.std.specs.Prelude.{slice_get, nat_le, nat_lt, nat_abs, int_le, int_lt, pos, ◌-ℤ◌, take, not, IsSome}
use Rattle.std.proofs.Math.Nat.{mul-le-mul_right}
use Rattle.std.proofs.lemmas.Bool.{le-leb, leb-true, eq-eqb, ne_eqb, and_from, and_parts, not-true}
use Rattle.std.specs.Fmt.{signed_decimal}
use Rattle.std.proofs.lemmas.Option.{same_Some}
use Rattle.sp_base.specs.declared.fault.Fault.{Fault}
use Rattle.sp_base.proofs.Facts.{not_true_and_false}
use Rattle.sp_tree.specs.declared.operators.BinaryOp.{BinaryOp}
use Rattle.sp_tree.specs.declared.operators.BinaryOp.TheVariants as op
use Rattle.sp_tree.specs.declared.operators.UnaryOp.TheVariants as sign
use Rattle.sp_tree.specs.Operators.{OperatorResult, value_in_range, successor, predecessor, absolute_value, square}
use Rattle.sp_tree.specs.Operators.{is_odd, unary_op}
use Rattle.sp_tree.specs.Operators.{binary_op, same_ordinal}
use Rattle.sp_tree.specs.Items.{ReadResult, ReadItem, ReadFault as Faulty, number_in, char_in, line_length, at_line_end}
use Rattle.sp_tree.specs.Items.{right_justified}
use Rattle.sp_tree.specs.Items.{truth_text, byte}
use Rattle.sp_tree.specs.Interference.{IsMember}
use Rattle.sp_tree.proofs.Members.{member_front}
use Rattle.sp_cell.specs.declared.cell.Cell.{Cell}
use Rattle.sp_cell.specs.declared.cell.Cell.TheVariants as cell
use Rattle.sp_cell.specs.declared.spot.Address.{Address}
use Rattle.sp_code.specs.declared.instr.Instr.{Instr}
use Rattle.sp_code.specs.declared.instr.Instr.TheVariants as i
use Rattle.sp_code.specs.declared.code.Formal.{Formal}
use Rattle.sp_code.specs.declared.code.Formal.TheVariants as formal
use Rattle.sp_code.specs.declared.code.Layout.{Layout}
use Rattle.sp_code.specs.declared.code.Parts.{Parts}
use Rattle.sp_code.specs.Machine.{Entry, Number, Chan, Pointer, Cells, Link, Reply, address_after, Stop, Forks, Opens}
use Rattle.sp_code.specs.Machine.{Sends}
use Rattle.sp_code.specs.Machine.{Receives, Ends, Pauses, At, StepResult, Goes, Stops, Fails, is_in_no_function}
use Rattle.sp_code.specs.Machine.{is_range, is_before}
use Rattle.sp_code.specs.Machine.{next_value, values_in, layout_of, fits_formal, fit_formals, on_some}
use Rattle.sp_code.specs.Machine.{on_one, on_two, truth_step, selection_step, pause_step, enter_step, call_step}
use Rattle.sp_code.specs.Machine.{return_step, item_step, reads}
use Rattle.sp_code.specs.Machine.{prints, prints_wide, writes, writes_wide, begins_loop, ends_loop, fork_step}
use Rattle.sp_code.specs.Machine.{instruction, next_step}
use Rattle.sp_code.specs.Memory.{Home, OfBlock, CodeRun, Stores, Frame, Memory, memory, frames_up, addr_in, deref_in}
use Rattle.sp_code.specs.Memory.{is_there, memory_after_call, references, reference_target, cell_at, without_frame}
use Rattle.sp_code.specs.Memory.{answer_in, answer_of}
use Rattle.sp_code.specs.Memory.{answer_by}
use Rattle.sp_verify_rules.specs.Areas.{Area, Body, Child, VariableInfo, on_option, variable_at, homes, instr_at}
use Rattle.sp_verify_rules.specs.Shapes.{Shape, O, C, L, A, Wrong, instr_shapes, address_shapes, stays_within, has_left}
use Rattle.sp_verify_rules.specs.Shapes.{below_topmost, span}
use Rattle.sp_verify_rules.specs.Shapes.{with_answer, to_one, take_all, take_none, two_to_one, one_to_one, one_gone}
use Rattle.sp_verify_rules.specs.Shapes.{two_gone}
use Rattle.sp_verify_rules.specs.Shapes.{loop_start_shapes}
use Rattle.sp_verify_rules.specs.Shapes.{loop_end_shapes, read_shapes, fill_shapes}
use Rattle.sp_verify_rules.specs.Reach.{IsArea, Reaches}
use Rattle.sp_verify_rules.specs.Extents.{HasWhole}
use Rattle.sp_verify_rules.specs.Touches.{MemorySuffices, HasAnswer, stored_by, topmost_variable, number_list}
use Rattle.sp_verify_rules.specs.Touches.{addresses}
use Rattle.sp_verify_rules.specs.InstructionFacts.{Points, HasShape, Operands, Framed, RefersWell, Refers, Caller}
use Rattle.sp_verify_rules.specs.InstructionFacts.{link_of}
use Rattle.sp_verify_rules.specs.InstructionFacts.{IsBottom}
use Rattle.sp_verify_rules.specs.InstructionFacts.{Under, ProcessAt, StoppedAt, StopsSo, ForksAt, cells_left}
use Rattle.sp_verify_rules.specs.NameRules.{is_plain, is_reference, is_block, is_loop_variable, names_there, level_fits}
use Rattle.sp_verify_rules.specs.NameRules.{ends_well}
use Rattle.sp_verify_rules.specs.NameRules.{names_well, loops_well}
use Rattle.sp_verify_rules.specs.Rules as rule
use Rattle.sp_verify_rules.specs.Changes.{Pairs, areas, areas_of, Target, Changes, Unchanged, Ticks, PutsCell, Copies}
use Rattle.sp_verify_rules.specs.Changes.{ReadsItem, Skips}
use Rattle.sp_verify_rules.specs.Changes.{Prints, MakesOwn, Calls, Returns, Well}
use Rattle.sp_verify_rules.proofs.OperandLaws.{LeadsToReached, number, channel, address, value, cells, equals, popped}
use Rattle.sp_verify_rules.proofs.OperandLaws.{is_there as is_found}
use Rattle.sp_verify_rules.proofs.OperandLaws.{holds, done, yields, ordinal, channel_of, both}
use Rattle.sp_verify_rules.proofs.Facts.{found, found_some, in_span, part_length}
use Rattle.sp_verify_rules.proofs.Facts.{has_left as has_cells_left, reaches, here, size_here, beat_frames}
use Rattle.sp_verify_rules.proofs.Facts.{print_frames}
use Rattle.sp_verify_rules.proofs.Facts.{opened_is, tick_is, print_is, opened_deep}

-- what the scopes of code give its frames: an address by level and number stands in the variable that is found there;
-- and the frame of a called block has the frames around it
pub record Scoped (c : Parts) : Type 0 where
  pub plain : (a : Area) (fs : List Frame) (up var : ℕ) (f : VariableInfo) → IsArea c a
      → Framed c.layouts (homes c a) fs
      → variable_at c a up var ≡ Some f → is_plain f.naming ≡ true
      → (q : Address) × (addr_in (frames_up up fs) var ≡ Some q) × Points c.layouts fs f.number f.cells q
  pub refers : (a : Area) (fs : List Frame) (up var : ℕ) (f : VariableInfo) → IsArea c a
      → Framed c.layouts (homes c a) fs
      → variable_at c a up var ≡ Some f → is_reference f.naming ≡ true
      → (q : Address) × (deref_in (frames_up up fs) var ≡ Some q) × Points c.layouts fs f.number f.cells q
  pub outward : (a : Area) (fs : List Frame) (up b : ℕ) (l : Layout) → IsArea c a → Framed c.layouts (homes c a) fs
      → layout_of c.layouts b ≡ Some l → is_block l.parent (slice_get (homes c a) up) ≡ true
      → (is_there (frames_up up fs) ≡ true)
      × ((f : Frame) → f.home ≡ OfBlock b → f.link ≡ length (frames_up up fs)
      → RefersWell c.layouts f fs (OfBlock b) → Framed c.layouts (homes c (Body b)) (f ∷ fs))
  pub inner : (b : ℕ) (l : Layout) (h : Option Home) → layout_of c.layouts b ≡ Some l → is_block l.parent h ≡ true
      → (b == 0) ≡ false
  pub named : (b : ℕ) (l : Layout) → layout_of c.layouts b ≡ Some l → l.block ≡ b
  pub newest : (b : ℕ) (l : Layout) (f : Frame) (fs : List Frame) → layout_of c.layouts b ≡ Some l
      → Framed c.layouts (homes c (Body b)) (f ∷ fs) → f.home ≡ OfBlock b

-- where a process stands
pub record Place (c : Parts) (a : Area) (p : ℕ) (ss : List Shape) (ks : List Caller) (rest st : List Entry)
    (fs : List Frame) : Type 0 where
  pub there : IsArea c a
  pub reached : Reaches c a p ss
  pub framed : Framed c.layouts (homes c a) fs
  pub operands : Operands c.layouts fs ss st rest
  pub under : Under c ks a fs rest

-- what the rules give of the instruction there
pub record Here (c : Parts) (a : Area) (p : ℕ) (ss : List Shape) (o : Option Instr) : Type 0 where
  pub instruction_is : instr_at c p ≡ o
  pub good : LeadsToReached c a (instr_shapes c a o p ss)
  pub within : stays_within o ss ≡ true
  pub fits : rule.call_fits c o ss ≡ true
  pub named : names_there c o ≡ true
  pub levels : level_fits c a o ≡ true
  pub ends : ends_well c a o ≡ true
  pub names : names_well c a o ≡ true
  pub loops : loops_well c a o ≡ true

-- ---- the operands of a call

number_fits : (f : Formal) (v : ℤ) → rule.fits_formal f O ≡ true → fits_formal f (Number v) ≡ true
number_fits (formal.Value n) v e = e
number_fits (formal.Reference n) v e = absurd (cc e)

chan_fits : (f : Formal) (d : ℕ) → rule.fits_formal f C ≡ true → fits_formal f (Chan d) ≡ true
chan_fits (formal.Value n) d e = e
chan_fits (formal.Reference n) d e = absurd (cc e)

cells_fit : (f : Formal) (k : ℕ) (cs : List Cell) → length cs ≡ k → rule.fits_formal f (L k) ≡ true
    → fits_formal f (Cells cs) ≡ true
cells_fit (formal.Value n) k cs l e = rw l e
cells_fit (formal.Reference n) k cs l e = absurd (cc e)

pointer_fits : (f : Formal) (x k : ℕ) (q : Address) → rule.fits_formal f (A x k) ≡ true
    → fits_formal f (Pointer q) ≡ true
pointer_fits (formal.Value n) x k q e = absurd (cc e)
pointer_fits (formal.Reference n) x k q e = refl

one_fits : (ls : List Layout) (fs : List Frame) (f : Formal) (s : Shape) (e : Entry) → HasShape ls fs s e
    → rule.fits_formal f s ≡ true → fits_formal f e ≡ true
one_fits ls fs f O (Number v) h r = number_fits f v r
one_fits ls fs f O (Chan d) h r = absurd h
one_fits ls fs f O (Pointer q) h r = absurd h
one_fits ls fs f O (Cells cs) h r = absurd h
one_fits ls fs f O (Link k) h r = absurd h
one_fits ls fs f O (Reply k) h r = absurd h
one_fits ls fs f C (Number v) h r = absurd h
one_fits ls fs f C (Chan d) h r = chan_fits f d r
one_fits ls fs f C (Pointer q) h r = absurd h
one_fits ls fs f C (Cells cs) h r = absurd h
one_fits ls fs f C (Link k) h r = absurd h
one_fits ls fs f C (Reply k) h r = absurd h
one_fits ls fs f (L n) (Number v) h r = absurd h
one_fits ls fs f (L n) (Chan d) h r = absurd h
one_fits ls fs f (L n) (Pointer q) h r = absurd h
one_fits ls fs f (L n) (Cells cs) h r = cells_fit f n cs h r
one_fits ls fs f (L n) (Link k) h r = absurd h
one_fits ls fs f (L n) (Reply k) h r = absurd h
one_fits ls fs f (A x n) (Number v) h r = absurd h
one_fits ls fs f (A x n) (Chan d) h r = absurd h
one_fits ls fs f (A x n) (Pointer q) h r = pointer_fits f x n q r
one_fits ls fs f (A x n) (Cells cs) h r = absurd h
one_fits ls fs f (A x n) (Link k) h r = absurd h
one_fits ls fs f (A x n) (Reply k) h r = absurd h

pub all_fit : (ls : List Layout) (fs : List Frame) (ms : List Formal) (bs : List Shape) (es : List Entry)
    → Pairs ls fs bs es → rule.fit_formals ms bs ≡ true → fit_formals ms es ≡ true
all_fit ls fs [] [] [] h r = refl
all_fit ls fs [] [] (e ∷ es) h r = absurd h
all_fit ls fs [] (s ∷ bs) es h r = absurd (cc r)
all_fit ls fs (m ∷ ms) [] es h r = absurd (cc r)
all_fit ls fs (m ∷ ms) (s ∷ bs) [] h r = absurd h
all_fit ls fs (m ∷ ms) (s ∷ bs) (e ∷ es) h r = let b = and_parts (rule.fits_formal m s) (rule.fit_formals ms bs) r in
    and_from (fits_formal m e) (fit_formals ms es) (one_fits ls fs m s e h.0 b.0) (all_fit ls fs ms bs es h.1 b.1)

-- x is the variable of an address among these
abbrev AddressIn : ℕ → List Shape → Type 0
AddressIn x [] = ⊥
AddressIn x (O ∷ ss) = AddressIn x ss
AddressIn x (C ∷ ss) = AddressIn x ss
AddressIn x (L n ∷ ss) = AddressIn x ss
AddressIn x (A y n ∷ ss) = (x ≡ y) ⊎ AddressIn x ss

addresses_in : (x n : ℕ) (ss bs : List Shape) → AddressIn x (rule.lowest_first n ss bs) → IsMember x (addresses n ss)
    ⊎ AddressIn x bs
addresses_in x zero ss bs h = inr h
addresses_in x (suc n) [] bs h = inr h
addresses_in x (suc n) (O ∷ ss) bs h = addresses_in x n ss (O ∷ bs) h
addresses_in x (suc n) (C ∷ ss) bs h = addresses_in x n ss (C ∷ bs) h
addresses_in x (suc n) (L k ∷ ss) bs h = addresses_in x n ss (L k ∷ bs) h
addresses_in x (suc n) (A y k ∷ ss) bs h = ⊎_elim (λ z. inl (inr z)) (λ z. ⊎_elim (λ e. inl (inl e)) (λ y. inr y) z)
    (addresses_in x n ss (A y k ∷ bs) h)

more_in : (x : ℕ) (b : Shape) (bs : List Shape) → AddressIn x bs → AddressIn x (b ∷ bs)
more_in x O bs h = h
more_in x C bs h = h
more_in x (L n) bs h = h
more_in x (A y n) bs h = inr h

skips : (ls : List Layout) (fs : List Frame) (e1 : Entry) (es : List Entry) (j t m : ℕ) → (t == j) ≡ false
    → Refers ls fs (reference_target t (references (suc j) es)) m
    → Refers ls fs (reference_target t (references j (e1 ∷ es))) m
skips ls fs (Pointer q) es j t m e h = rw e h
skips _ _ _ _ _ _ _ _ h = h

-- an address is what a reference formal refers to, where it leads to what is held
abbrev LeadsToReferent : List Layout → List Frame → (ℕ → Type 0) → Type 0
LeadsToReferent ls fs whole = (x left : ℕ) (q : Address) → Points ls fs x left q → whole x → (k : ℕ) → k ≤ left
    → Refers ls fs (Some q) k

first_passes : (ls : List Layout) (fs : List Frame) (whole : ℕ → Type 0) → LeadsToReferent ls fs whole
    → (b : Shape) (e1 : Entry) (es : List Entry) (j t m : ℕ) → (t == j) ≡ true
    → HasShape ls fs b e1 → ((x : ℕ) → AddressIn x (b ∷ []) → 2 ≤ x → whole x)
    → rule.fits_formal (formal.Reference m) b ≡ true → Refers ls fs (reference_target t (references j (e1 ∷ es))) m
first_passes ls fs whole next_step O e1 es j t m e ft wh r = absurd (cc r)
first_passes ls fs whole next_step C e1 es j t m e ft wh r = absurd (cc r)
first_passes ls fs whole next_step (L n) e1 es j t m e ft wh r = absurd (cc r)
first_passes ls fs whole next_step (A x n) (Number v) es j t m e ft wh r = absurd ft
first_passes ls fs whole next_step (A x n) (Chan d) es j t m e ft wh r = absurd ft
first_passes ls fs whole next_step (A x n) (Pointer q) es j t m e ft wh r = rw e
    (next_step x n q ft (wh x (inl refl) ft.real) m (leb-true m n r))
first_passes ls fs whole next_step (A x n) (Cells cs) es j t m e ft wh r = absurd ft
first_passes ls fs whole next_step (A x n) (Link d) es j t m e ft wh r = absurd ft
first_passes ls fs whole next_step (A x n) (Reply d) es j t m e ft wh r = absurd ft

only_first : (x : ℕ) (b : Shape) (bs : List Shape) → AddressIn x (b ∷ []) → AddressIn x (b ∷ bs)
only_first x O bs h = absurd h
only_first x C bs h = absurd h
only_first x (L n) bs h = absurd h
only_first x (A y n) bs h = ⊎_elim (λ e. inl e) (λ z. absurd z) h

-- each reference formal refers to something
passes_on : (ls : List Layout) (fs : List Frame) (whole : ℕ → Type 0) → LeadsToReferent ls fs whole
    → (ms : List Formal) (bs : List Shape) (es : List Entry) (j : ℕ) → Pairs ls fs bs es → rule.fit_formals ms bs ≡ true
    → ((x : ℕ) → AddressIn x bs → 2 ≤ x → whole x)
    → (t k m : ℕ) → t ≡ j + k → slice_get ms k ≡ Some (formal.Reference m)
    → Refers ls fs (reference_target t (references j es)) m
passes_on ls fs whole next_step [] bs es j pr r wh t k m e s = absurd (cc s)
passes_on ls fs whole next_step (f ∷ ms) [] es j pr r wh t k m e s = absurd (cc r)
passes_on ls fs whole next_step (f ∷ ms) (b ∷ bs) [] j pr r wh t k m e s = absurd pr
passes_on ls fs whole next_step (f ∷ ms) (b ∷ bs) (e1 ∷ es) j pr r wh t zero m e s =
    first_passes ls fs whole next_step b e1 es j t m (eq-eqb t j (omega (arith, e))) pr.0
    (λ x h. wh x (only_first x b bs h))
    (subst (λ z. rule.fits_formal z b ≡ true) (same_Some f (formal.Reference m) s)
    (and_parts (rule.fits_formal f b) (rule.fit_formals ms bs) r).0)
passes_on ls fs whole next_step (f ∷ ms) (b ∷ bs) (e1 ∷ es) j pr r wh t (suc k) m e s =
    skips ls fs e1 es j t m (ne_eqb t j (λ h. omega (arith, e, h)))
    (passes_on ls fs whole next_step ms bs es (suc j) pr.1
    (and_parts (rule.fits_formal f b) (rule.fit_formals ms bs) r).1
    (λ x h. wh x (more_in x b bs h)) t k m (omega (arith, e)) s)

module _ {S : Type 0} (stores : Stores S) (g : CodeRun) (sc : Scoped g.code) (a : Area) (p : ℕ) (ss : List Shape)
    (ks : List Caller) (rest st : List Entry) (n : Memory S) (w : Place g.code a p ss ks rest st n.frames) where
  abbrev pub Fn : StepResult (Memory S) → Type 0
  Fn x = Well stores g a (instr_at g.code p) ss n (a ∷ areas_of ks) x

  fails : (f : Fault) → Fn (Fails f)
  fails f = tt

  abbrev Ch : Memory S → Type 0
  Ch m = Changes stores g a (instr_at g.code p) ss n (a ∷ areas_of ks) (a ∷ areas_of ks) m

  -- what is held whole, of these variables
  abbrev Whole : List ℕ → Type 0
  Whole xs = (y : ℕ) → IsMember y xs → 2 ≤ y → HasWhole stores g.code.layouts n y

  -- the variables of a list are ones that the instruction stores
  abbrev Sub : List ℕ → Type 0
  Sub xs = (x : ℕ) → IsMember x xs → IsMember x (stored_by g.code a (instr_at g.code p) ss)

  abbrev Tg : Address → ℕ → Type 0
  Tg q k = Target stores g a (instr_at g.code p) ss n q k

  target : (q : Address) (x left k : ℕ) → Points g.code.layouts n.frames x left q → k ≤ left
      → IsMember x (stored_by g.code a (instr_at g.code p) ss) → Tg q k
  target q x left k pt h m = record { variable = x; left = left; points = pt; room = h; stored = m }

  abbrev stand_here : (q : ℕ) (ts : List Shape) (s1 : List Entry) → Reaches g.code a q ts
      → Operands g.code.layouts n.frames ts s1 rest → ProcessAt g.code q s1 n.frames
  stand_here q ts s1 r o = record {
    area = a;
    shapes = ts;
    callers = ks;
    rest = rest;
    there = w.there;
    reached = r;
    framed = w.framed;
    operands = o;
    under = w.under;
  }

  -- on to an instruction, with the same frames
  lands_with : (q : ℕ) (ts : List Shape) (s1 : List Entry) (m : Memory S) → m.frames ≡ n.frames → Reaches g.code a q ts
      → Operands g.code.layouts n.frames ts s1 rest → Ch m → (s : ProcessAt g.code q s1 m.frames)
      × Changes stores g a (instr_at g.code p) ss n (a ∷ areas_of ks) (areas s) m
  lands_with q ts s1 m e r o ch =
      subst (λ fs. (s : ProcessAt g.code q s1 fs)
      × Changes stores g a (instr_at g.code p) ss n (a ∷ areas_of ks) (areas s) m) (sym e) (
        record {
          area = a;
          shapes = ts;
          callers = ks;
          rest = rest;
          there = w.there;
          reached = r;
          framed = w.framed;
          operands = o;
          under = w.under;
        },
        ch,
      )

  lands : (q : ℕ) (ts : List Shape) (s1 : List Entry) (m : Memory S) → m.frames ≡ n.frames → Reaches g.code a q ts
      → Operands g.code.layouts n.frames ts s1 rest → Ch m → Fn (Goes (At q s1 m))
  lands q ts s1 m e r o ch = lands_with q ts s1 m e r o ch

  -- with the same memory
  stays : (q : ℕ) (ts : List Shape) (s1 : List Entry) → Reaches g.code a q ts
      → Operands g.code.layouts n.frames ts s1 rest → Fn (Goes (At q s1 n))
  stays q ts s1 r o = (
    record {
      area = a;
      shapes = ts;
      callers = ks;
      rest = rest;
      there = w.there;
      reached = r;
      framed = w.framed;
      operands = o;
      under = w.under;
    },
    Unchanged refl refl,
  )

  -- a stop there, after which it goes on
  abbrev stopped : (s : Stop) (q : ℕ) (s1 : List Entry) → StopsSo g.code s a p ss n.frames ks
      → StoppedAt g.code s q s1 n.frames
  stopped s q s1 so = record {
    area = a;
    position = p;
    shapes = ss;
    callers = ks;
    there = w.there;
    reached = w.reached;
    so = so;
  }

  tested : (b : Bool) (x y : StepResult (Memory S)) → (b ≡ true → Fn x) → Fn y → Fn (if b then x else y)
  tested true x y h k = h refl
  tested false x y h k = k

  two : (o : BinaryOp) → LeadsToReached g.code a (two_to_one p ss) → Fn (on_two (memory stores g) g.code o p st n)
  two o gd = number g.code a n.frames rest Fn fails (λ _. Unit {0}) ss st _ _ tt w.operands gd (λ v ts s1 _ o1 g1.
      number g.code a n.frames rest Fn fails (λ _. Unit {0}) ts s1 _ _ tt o1 g1 (λ u us s2 _ o2 g2.
      yields g.code a n.frames rest Fn fails (binary_op o u v) _
      (λ x. stays (p + 1) (O ∷ us) (Number x ∷ s2) g2.0 (tt, o2))))

  alone : (f : ℤ → OperatorResult) → LeadsToReached g.code a (one_to_one p ss)
      → Fn (on_one (memory stores g) g.code f p st n)
  alone f gd = number g.code a n.frames rest Fn fails (λ _. Unit {0}) ss st _ _ tt w.operands gd (λ v ts s1 _ o1 g1.
      yields g.code a n.frames rest Fn fails (f v) _ (λ x. stays (p + 1) (O ∷ ts) (Number x ∷ s1) g1.0 (tt, o1)))

  tells : (b : Bool) (q : ℕ) (ts : List Shape) (s1 : List Entry) → Reaches g.code a q (O ∷ ts)
      → Operands g.code.layouts n.frames ts s1 rest → Fn (truth_step (memory stores g) g.code b q s1 n)
  tells b q ts s1 r o = stays q (O ∷ ts) (Number (if b then pos 1 else pos 0) ∷ s1) r (tt, o)

  -- a pause or a step on
  paces : (s1 : List Entry) (m : Memory S) (q : ℕ) → (s : ProcessAt g.code q s1 m.frames)
      × Changes stores g a (instr_at g.code p) ss n (a ∷ areas_of ks) (areas s) m
      → StoppedAt g.code Pauses q s1 m.frames → Fn (pause_step (memory stores g) g.code q s1 m)
  paces s1 m q h k = both g.code a n.frames rest Fn fails (is_in_no_function s1) _ _
      (both g.code a n.frames rest Fn fails ((memory stores g).due m) _ _ (k, h.0, h.1, tt) h) h

  -- bytes written
  printed : (t : List ℕ) (q : ℕ) (ts : List Shape) (s1 : List Entry) → (memory stores g).has_output n ≡ true
      → Sub (1 ∷ []) → Reaches g.code a q ts → Operands g.code.layouts n.frames ts s1 rest
      → Fn (prints (memory stores g) g.code t q s1 n)
  printed t q ts s1 out sb r o = holds g.code a n.frames rest Fn fails ((memory stores g).has_output n) _ out
      (done g.code a n.frames rest Fn fails ((memory stores g).print t n) _
      (λ m e. lands q ts s1 m (print_frames stores g t n m e) r o
      (Prints t refl (sb 1 (inl refl)) (print_is stores g t n m e))))

  wides : (cut : Bool) (t : List ℕ) (m : ℤ) (q : ℕ) (ts : List Shape) (s1 : List Entry)
      → (memory stores g).has_output n ≡ true → Sub (1 ∷ []) → Reaches g.code a q ts
      → Operands g.code.layouts n.frames ts s1 rest
      → Fn (prints_wide (memory stores g) g.code cut t m q s1 n)
  wides cut t m q ts s1 out sb r o = both g.code a n.frames rest Fn fails (int_le m (pos 0)) _ _ tt
      (printed (right_justified (nat_abs m) (if cut then take (nat_abs m) t else t)) q ts s1 out sb r o)

  written : (text : ℤ → List ℕ) → (memory stores g).has_output n ≡ true → Sub (1 ∷ [])
      → LeadsToReached g.code a (one_gone p ss)
      → Fn (writes (memory stores g) g.code text (p + 1) st n)
  written text out sb gd = number g.code a n.frames rest Fn fails (λ _. Unit {0}) ss st _ _ tt w.operands gd
      (λ v ts s1 _ o1 g1. printed (text v) (p + 1) ts s1 out sb g1.0 o1)

  written_wide : (cut : Bool) (text : ℤ → List ℕ) → (memory stores g).has_output n ≡ true → Sub (1 ∷ [])
      → LeadsToReached g.code a (two_gone p ss) → Fn (writes_wide (memory stores g) g.code cut text (p + 1) st n)
  written_wide cut text out sb gd = number g.code a n.frames rest Fn fails (λ _. Unit {0}) ss st _ _ tt w.operands gd
      (λ m ts s1 _ o1 g1.
      number g.code a n.frames rest Fn fails (λ _. Unit {0}) ts s1 _ _ tt o1 g1
      (λ v us s2 _ o2 g2. wides cut (text v) m (p + 1) us s2 out sb g2.0 o2))

  -- an item read
  took : (t : ReadResult) (q1 : Address) (q : ℕ) (ts : List Shape) (s1 : List Entry) → Tg q1 1 → Sub (0 ∷ [])
      → Reaches g.code a q ts → Operands g.code.layouts n.frames ts s1 rest
      → Fn (item_step (memory stores g) g.code t q1 q s1 n)
  took (ReadItem v bytes) q1 q ts s1 tg sb r o = lands q ts s1
      ((memory stores g).put q1 (cell.Ordinal v) ((memory stores g).advance bytes n)) refl r o
      (ReadsItem q1 (cell.Ordinal v) bytes refl tg (sb 0 (inl refl)) refl)
  took (Faulty f) q1 q ts s1 tg sb r o = tt

  read_item : (item : List ℕ → ReadResult) → has_left 1 ss ≡ true → Whole ((0 ∷ topmost_variable ss) ++ [])
      → Sub (0 ∷ topmost_variable ss)
      → IsSome ((memory stores g).left n) → LeadsToReached g.code a (fill_shapes p ss)
      → Fn (reads (memory stores g) g.code item (p + 1) st n)
  read_item item le wh sb inp gd = address g.code a n.frames rest Fn fails (λ zs. (has_left 1 zs ≡ true)
      × Whole ((0 ∷ topmost_variable zs) ++ []) × Sub (0 ∷ topmost_variable zs)) ss st _ _ (le, wh, sb) w.operands gd
      (λ q x m ts s1 z pt o1 g1.
      holds g.code a n.frames rest Fn fails ((memory stores g).has q 1 n) _
      (has_cells_left stores g.code.layouts n x m q pt (z.1 x (inr (inl refl)) pt.real) 1 (leb-true 1 m z.0))
      (let b = found_some ((memory stores g).left n) inp in is_found g.code a n.frames rest Fn fails
      ((memory stores g).left n) b.0 _ b.1
      (took (item b.0) q (p + 1) ts s1 (target q x m 1 pt (leb-true 1 m z.0) (z.2 x (inr (inl refl))))
      (λ y e. z.2 y (⊎_elim (λ i. inl i) (λ i. absurd i) e)) g1.0 o1)))

  -- the variable of a loop is there, and held
  loop_address : (var : ℕ) → is_loop_variable (variable_at g.code a 0 var) ≡ true
      → Whole (number_list (variable_at g.code a 0 var) ++ []) → Sub (number_list (variable_at g.code a 0 var))
      → (q : Address) × ((memory stores g).addr 0 var n ≡ Some q) × ((memory stores g).has q 1 n ≡ true) × Tg q 1
  loop_address var lp wh sb = go (variable_at g.code a 0 var) refl lp wh sb
    where
      go : (o : Option VariableInfo) → variable_at g.code a 0 var ≡ o → is_loop_variable o ≡ true
          → Whole (number_list o ++ [])
          → Sub (number_list o) → (q : Address) × ((memory stores g).addr 0 var n ≡ Some q)
          × ((memory stores g).has q 1 n ≡ true) × Tg q 1
      go None e l wh sb = absurd (cc l)
      go (Some f) e l wh sb =
          let b = and_parts (is_plain f.naming) (f.cells == 1) l in
          let next_step = eqb-true f.cells 1 b.1 in
          let q = sc.plain a n.frames 0 var f w.there w.framed e b.0 in (
            q.0,
            q.1,
            has_cells_left stores g.code.layouts n f.number f.cells q.0 q.2 (wh f.number (inl refl) q.2.real) 1
                (omega (arith, next_step)),
            target q.0 f.number f.cells 1 q.2 (omega (arith, next_step)) (sb f.number (inl refl)),
          )

  begun : (down : Bool) (var to : ℕ) → is_loop_variable (variable_at g.code a 0 var) ≡ true
      → Whole (number_list (variable_at g.code a 0 var) ++ []) → Sub (number_list (variable_at g.code a 0 var))
      → LeadsToReached g.code a (loop_start_shapes p to ss)
      → Fn (begins_loop (memory stores g) g.code down var to p st n)
  begun down var to lp wh sb gd = number g.code a n.frames rest Fn fails (λ _. Unit {0}) ss st _ _ tt w.operands gd
      (λ last ts s1 _ o1 g1.
      number g.code a n.frames rest Fn fails (λ _. Unit {0}) ts s1 _ _ tt o1 g1
      (λ first us s2 _ o2 (next_reached, (end_reached, _)).
      let (q, q_is, q_there, is_target) = loop_address var lp wh sb in is_found g.code a n.frames rest Fn fails
      ((memory stores g).addr 0 var n) q _ q_is
      (holds g.code a n.frames rest Fn fails ((memory stores g).has q 1 n) _ q_there
      (both g.code a n.frames rest Fn fails (is_range down first last) _ _
      (lands (p + 1) (O ∷ us) (Number last ∷ s2) ((memory stores g).put q (cell.Ordinal first) n) refl next_reached
      (tt, o2) (PutsCell q (cell.Ordinal first) refl is_target refl)) (stays to us s2 end_reached o2)))))

  goes_on : (down : Bool) (var to : ℕ) → is_loop_variable (variable_at g.code a 0 var) ≡ true
      → Whole (number_list (variable_at g.code a 0 var) ++ []) → Sub (number_list (variable_at g.code a 0 var))
      → LeadsToReached g.code a (loop_end_shapes p to ss) → Fn (ends_loop (memory stores g) g.code down var to p st n)
  goes_on down var to lp wh sb gd = number g.code a n.frames rest Fn fails (λ _. Unit {0}) ss st _ _ tt w.operands gd
      (λ last ts s1 _ o1 (again_reached, (next_reached, _)).
      let (q, q_is, q_there, is_target) = loop_address var lp wh sb in is_found g.code a n.frames rest Fn fails
      ((memory stores g).addr 0 var n) q _ q_is
      (holds g.code a n.frames rest Fn fails ((memory stores g).has q 1 n) _ q_there
      (ordinal g.code a n.frames rest Fn fails ((memory stores g).read q n) _ (λ v.
      both g.code a n.frames rest Fn fails (is_before down v last) _ _
      (lands to (O ∷ ts) (Number last ∷ s1)
      ((memory stores g).put q (cell.Ordinal (next_value down v)) n) refl again_reached (tt, o1)
      (PutsCell q (cell.Ordinal (next_value down v)) refl is_target refl)) (stays (p + 1) ts s1 next_reached o1)))))

  -- an address within another
  further_points : (x left k left1 : ℕ) (q : Address) → Points g.code.layouts n.frames x left q → k + left1 ≤ left
      → Points g.code.layouts n.frames x left1 (address_after k q)
  further_points x left k left1 q pt h = record {
    real = pt.real;
    stands = pt.stands;
    size = pt.size;
    whole = pt.whole;
    fits = let f = pt.fits in omega (arith, f, h);
    small = pt.small;
  }

  selects : (x left k left1 : ℕ) (q : Address) (ts : List Shape) (s1 : List Entry)
      → Points g.code.layouts n.frames x left q → k + left1 ≤ left
      → Reaches g.code a (p + 1) (A x left1 ∷ ts) → Operands g.code.layouts n.frames ts s1 rest
      → Fn (selection_step (memory stores g) g.code (address_after k q) (p + 1) s1 n)
  selects x left k left1 q ts s1 pt h r o =
      let pt1 = further_points x left k left1 q pt h in
      holds g.code a n.frames rest Fn fails (nat_le (address_after k q).offset 4294967295) _
      (le-leb (address_after k q).offset 4294967295 (let f = pt1.fits in let sm = pt1.small in omega (arith, f, sm)))
      (stays (p + 1) (A x left1 ∷ ts) (Pointer (address_after k q) ∷ s1) r (pt1, o))

  -- a fork
  forks : (t : ℕ) (first : ℤ) (count : ℕ) (ts : List Shape) (s1 : List Entry) → ForksAt g.code p t count
      → Reaches g.code a (p + 1) ts → Operands g.code.layouts n.frames ts s1 rest
      → Fn (fork_step (memory stores g) g.code t first count (p + 1) s1 n)
  forks t first count ts s1 at r o = tested ((memory stores g).may_fork n) _ _
      (λ e. (
        stopped (Forks t first count) (p + 1) s1 at,
        stand_here (p + 1) ts s1 r o,
        Unchanged refl refl,
        (refl, e),
      )) tt

  packs : (k : ℕ) → has_left k ss ≡ true → Whole (topmost_variable ss)
      → LeadsToReached g.code a (read_shapes (L k) p ss)
      → Fn (instruction (memory stores g) g.code (Some (i.Pack k)) p st n)
  packs k le wh gd = address g.code a n.frames rest Fn fails (λ zs. (has_left k zs ≡ true)
      × Whole (topmost_variable zs)) ss st _ _ (le, wh) w.operands gd (λ q x m ts s1 z pt o1 g1.
      let h = z.1 x (inl refl) pt.real in
      let l = leb-true k m z.0 in
      let e : length ((memory stores g).cells q k n) ≡ k = rw (here stores g.code.layouts n x m q pt h)
      (part_length h.cells q.offset k (reaches stores g.code.layouts n x m q pt h k l)) in
      holds g.code a n.frames rest Fn fails ((memory stores g).has q k n) _
      (has_cells_left stores g.code.layouts n x m q pt h k l)
      (stays (p + 1) (L k ∷ ts) (Cells ((memory stores g).cells q k n) ∷ s1) g1.0 (e, o1)))

  opens : instr_at g.code p ≡ Some i.Open → has_left 1 ss ≡ true → Whole (topmost_variable ss ++ [])
      → LeadsToReached g.code a (fill_shapes p ss) → Fn (instruction (memory stores g) g.code (Some i.Open) p st n)
  opens is le wh gd = address g.code a n.frames rest Fn fails (λ zs. (zs ≡ ss) × (has_left 1 zs ≡ true)
      × Whole (topmost_variable zs ++ [])) ss st _ _ (refl, le, wh) w.operands gd (λ q x m ts s1 z pt o1 g1.
      let h = z.2 x (inl refl) pt.real in
      let l = leb-true 1 m z.1 in
      holds g.code a n.frames rest Fn fails ((memory stores g).has q 1 n) _
      (has_cells_left stores g.code.layouts n x m q pt h 1 l)
      (let sx : IsMember x (stored_by g.code a (instr_at g.code p) ss) = rw is
      (subst (λ zs. IsMember x (stored_by g.code a (Some i.Open) zs)) z.0 (inl refl)) in (
        stopped (Opens q) (p + 1) s1 (x, m, pt, l, sx),
        stand_here (p + 1) ts s1 g1.0 o1,
        MakesOwn q 1 refl
            (target q x m 1 pt l sx) refl,
        refl,
      )))

  sends : (k : ℕ) → instr_at g.code p ≡ Some (i.Send k)
      → LeadsToReached g.code a (instr_shapes g.code a (Some (i.Send k)) p ss)
      → Fn (instruction (memory stores g) g.code (Some (i.Send k)) p st n)
  sends k is gd = cells g.code a n.frames rest Fn fails (λ zs. zs ≡ ss) ss st _ _ refl w.operands gd
      (λ v s ts s1 z mc o1 g1.
      channel g.code a n.frames rest Fn fails (λ _. Unit {0}) ts s1 _ _ tt o1 g1 (λ ch us s2 _ o2 g2. (
        stopped (Sends ch k v) (p + 1) s2
            (record {
              area = a;
              position = p;
              shapes = ss;
              there = w.there;
              reached = w.reached;
              instruction_is = is;
              cells = rw
                  (← z) mc;
            }),
        stand_here (p + 1) us s2 g2.0 o2,
        Unchanged refl refl,
        refl,
      )))

  receives : (k : ℕ) → instr_at g.code p ≡ Some (i.Receive k) → Whole (topmost_variable ss ++ [])
      → LeadsToReached g.code a (instr_shapes g.code a (Some (i.Receive k)) p ss)
      → Fn (instruction (memory stores g) g.code (Some (i.Receive k)) p st n)
  receives k is wh gd = address g.code a n.frames rest Fn fails (λ zs. (zs ≡ ss)
      × Whole (topmost_variable zs ++ [])) ss st _ _ (refl, wh) w.operands gd (λ q x m ts s1 z pt o1 g1.
      channel g.code a n.frames rest Fn fails (λ _. Unit {0}) ts s1 _ _ tt o1 g1 (λ ch us s2 _ o2 g2.
      let h = z.1 x (inl refl) pt.real in
      holds g.code a n.frames rest Fn fails ((memory stores g).has q 0 n) _
      (has_cells_left stores g.code.layouts n x m q pt h 0 (omega arith))
      (let sx : IsMember x (stored_by g.code a (instr_at g.code p) ss) = rw is
      (subst (λ zs. IsMember x (stored_by g.code a (Some (i.Receive k)) zs)) z.0 (inl refl)) in (
        stopped (Receives ch k q) (p + 1) s2 (
          x,
          m,
          pt,
          record {
            area = a;
            position = p;
            shapes = ss;
            there = w.there;
            reached = w.reached;
            instruction_is = is;
            cells = subst (λ zs. cells_left g.code zs ≡ Some m) z.0 refl;
          },
          sx,
        ),
        stand_here (p + 1) us s2 g2.0 o2,
        MakesOwn q m refl (target q x m m pt (omega arith) sx) refl,
        (refl, (n, refl)),
      ))))

  -- what is held whole may be passed by reference
  may_pass : LeadsToReferent g.code.layouts n.frames (λ x. HasWhole stores g.code.layouts n x)
  may_pass x left q pt wh k l =
      let s : q.spot ≡ wh.spot = same_Some q.spot wh.spot (sym pt.stands ∙ wh.stands) in
      record {
        address = q;
        address_is = refl;
        size = length wh.cells;
        whole = rw s wh.known;
        fits = reaches stores g.code.layouts n x left q pt wh k l;
        small = let e = size_here stores g.code.layouts n x left q pt wh in let sm = pt.small in omega
            (arith, e, sm);
      }

  -- a call
  module _ (b up : ℕ) (is : instr_at g.code p ≡ Some (i.Call b up))
      (number_list : nat_le (stores.next_frame n.store) 18446744073709551615 ≡ true) where
    -- in the called block
    enters : (l : Layout) → layout_of g.code.layouts b ≡ Some l
        → is_block l.parent (slice_get (homes g.code a) up) ≡ true
        → rule.fit_formals l.formals (rule.lowest_first (length l.formals) ss []) ≡ true
        → Whole (addresses (length l.formals) ss ++ []) → (es : List Entry) (ts : List Shape) (s1 : List Entry)
        → Pairs g.code.layouts n.frames (rule.lowest_first (length l.formals) ss []) es
        → Operands g.code.layouts n.frames ts s1 rest
        → Reaches g.code a (p + 1) (with_answer l.answer ts) → nat_lt n.depth g.limits.depth ≡ true
        → (s : ProcessAt g.code l.entry (link_of l.answer (p + 1) ∷ s1) (memory_after_call stores g l up es n).frames)
        × Changes stores g a (instr_at g.code p) ss n (a ∷ areas_of ks) (areas s) (memory_after_call stores g l up es n)
    enters l e lev ft wh es ts s1 pr o1 r deep =
        let out = sc.outward a n.frames up b l w.there w.framed e lev in
        let held : (x : ℕ) → AddressIn x (rule.lowest_first (length l.formals) ss []) → 2 ≤ x
        → HasWhole stores g.code.layouts n x =
        λ x h two. wh x (member_front x (addresses (length l.formals) ss) []
        (⊎_elim (λ z. z) (λ z. absurd z) (addresses_in x (length l.formals) ss [] h))) two in (
          record {
            area = Body b;
            shapes = [];
            callers = record { area = a; position = p + 1; shapes = ts } ∷ ks;
            rest = link_of l.answer (p + 1) ∷ s1;
            there = (l, e);
            reached = record { steps = 0; way = (rw e refl, refl) };
            framed = out.1 (record {
              owner = n.process;
              number = stores.next_frame n.store;
              home = OfBlock l.block;
              link = length (frames_up up n.frames);
              references = references 0 es;
            })
                (ap OfBlock (sc.named b l e)) refl
                (λ l1 e1 k m s. passes_on g.code.layouts n.frames
                (λ x. HasWhole stores g.code.layouts n x) may_pass l.formals
                (rule.lowest_first (length l.formals) ss []) es 0 pr ft held k k m (omega arith)
                (subst (λ z. slice_get z.formals k ≡ Some (formal.Reference m)) (same_Some l1 l (sym e1 ∙ e)) s));
            operands = refl;
            under = (
              record {
                block = b;
                layout = l;
                below_link = s1;
                rest = rest;
                is_body = refl;
                not_program = sc.inner b l (slice_get (homes g.code a) up) e lev;
                layout_is = e;
                link_is = refl;
                there = w.there;
                reached = r;
                framed = w.framed;
                operands = o1;
              },
              w.under,
            );
          },
          Calls b up l es refl is e pr ft deep refl,
        )

    -- how a called block's process stands, with its new memory
    abbrev CalleeStands : Layout → List Entry → Memory S → Bool → Type 0
    CalleeStands l s1 m t = (s : ProcessAt g.code l.entry (link_of t (p + 1) ∷ s1) m.frames)
        × Changes stores g a (instr_at g.code p) ss n (a ∷ areas_of ks) (areas s) m

    enter : (l : Layout) (s1 : List Entry) (m : Memory S) → CalleeStands l s1 m l.answer
        → Fn (enter_step (memory stores g) g.code l (p + 1) s1 m)
    enter l s1 m h = go l.answer h
      where
        go : (t : Bool) → CalleeStands l s1 m t
            → Fn (if t then Goes (At l.entry (Reply (p + 1) ∷ s1) m) else pause_step (memory stores g) g.code l.entry
            (Link (p + 1) ∷ s1) m)
        go true h = h
        go false h = paces (Link (p + 1) ∷ s1) m l.entry h
            (record {
              area = a;
              position = p;
              shapes = ss;
              callers = ks;
              there = w.there;
              reached = w.reached;
              so = tt;
            })

    calls : (o : Option Layout) → layout_of g.code.layouts b ≡ o
        → on_option false o (λ l. is_block l.parent (slice_get (homes g.code a) up)) ≡ true
        → on_option false o (λ l. rule.fit_formals l.formals (rule.lowest_first (length l.formals) ss [])) ≡ true
        → Whole (on_option [] o (λ l. addresses (length l.formals) ss) ++ [])
        → LeadsToReached g.code a (on_option Wrong o (λ l. take_all (length l.formals) ss
        (λ s1. to_one (p + 1) (with_answer l.answer s1))))
        → Fn (on_some o (λ l. call_step (memory stores g) g.code l up (p + 1) st n))
    calls None e lev ft wh gd = absurd gd
    calls (Some l) e lev ft wh gd =
        let out = sc.outward a n.frames up b l w.there w.framed e lev in
        popped g.code a n.frames rest Fn fails (length l.formals) ss st [] []
        (λ s1. to_one (p + 1) (with_answer l.answer s1)) _ w.operands gd tt (λ es ts s1 pr o1 g1.
        holds g.code a n.frames rest Fn fails (fit_formals l.formals es) _
        (all_fit g.code.layouts n.frames l.formals (rule.lowest_first (length l.formals) ss []) es pr ft)
        (holds g.code a n.frames rest Fn fails ((memory stores g).can_push up n) _ (and_from _ _ out.0 number_list)
        (done g.code a n.frames rest Fn fails ((memory stores g).open_frame l up es n) _ (λ m k.
        enter l s1 m (subst (λ z. CalleeStands l s1 z l.answer) (sym (opened_is stores g l up es n m k))
        (enters l e lev ft wh es ts s1 pr o1 g1.0 (opened_deep stores g l up es n m k)))))))

  -- a return
  bottom_stays : (a1 : Area) → IsBottom a1 → ends_well g.code a1 (Some i.Return) ≡ true → ⊥
  bottom_stays (Body b) e h = absurd (not_true_and_false (b == 0) (eq-eqb b 0 e) (not-true (b == 0) h))
  bottom_stays (Child a1 q k) e h = cc h

  closed : (f : Frame) (fs : List Frame) → n.frames ≡ f ∷ fs → ((memory stores g).close_frame n).frames ≡ fs
  closed f fs e = subst (λ z. (without_frame stores g z n).frames ≡ fs) (sym e) refl

  returns_to : instr_at g.code p ≡ Some i.Return → (ks1 : List Caller) (fs : List Frame) → ks ≡ ks1 → n.frames ≡ fs
      → Under g.code ks1 a fs rest → ends_well g.code a (Some i.Return) ≡ true → (memory stores g).may_close n ≡ true
      → ((b : ℕ) (l : Layout) → a ≡ Body b → layout_of g.code.layouts b ≡ Some l → l.answer ≡ true
      → HasAnswer stores g n ((memory stores g).answer n)) → st ≡ rest
      → Fn (return_step (memory stores g) g.code st n)
  returns_to is [] fs kse e u ew mc an se = absurd (bottom_stays a u.1 ew)
  returns_to is (k ∷ ks1) [] kse e u ew mc an se = absurd u
  returns_to is (k ∷ ks1) (f ∷ fs) kse e (h, below) ew mc an se = go h.layout.answer refl (se ∙ h.link_is)
    where
      home : f.home ≡ OfBlock h.block
      home = sc.newest h.block h.layout f fs h.layout_is
          (subst (λ z. Framed g.code.layouts (homes g.code z) (f ∷ fs)) h.is_body
          (subst (λ z. Framed g.code.layouts (homes g.code a) z) e w.framed))

      answer_at : (memory stores g).answer n ≡ Some (cell_at f.number (length h.layout.formals))
      answer_at = ap (λ z. answer_in g.code.layouts z) e
          ∙ (ap (λ z. answer_of g.code.layouts f.number z) home ∙ ap (λ z. answer_by f.number z) h.layout_is)

      back_at : (sts : List Entry) (ts : List Shape) → Reaches g.code k.area k.position ts
          → Operands g.code.layouts fs ts sts h.rest → Fn (Goes (At k.position sts ((memory stores g).close_frame n)))
      back_at sts ts r o = subst (λ z. (s : ProcessAt g.code k.position sts z)
          × Changes stores g a (instr_at g.code p) ss n (a ∷ areas_of ks) (areas s) ((memory stores g).close_frame n))
          (sym (closed f fs e)) (
            record {
              area = k.area;
              shapes = ts;
              callers = ks1;
              rest = h.rest;
              there = h.there;
              reached = r;
              framed = h.framed;
              operands = o;
              under = below;
            },
            Returns (ap (λ z. a ∷ areas_of z) kse) is refl,
          )

      go : (t : Bool) → h.layout.answer ≡ t → st ≡ link_of h.layout.answer k.position ∷ h.below_link
          → Fn (return_step (memory stores g) g.code st n)
      go true la es =
          let q = cell_at f.number (length h.layout.formals) in
          subst (λ z. Fn (return_step (memory stores g) g.code z n))
          (sym (es ∙ ap (λ t. link_of t k.position ∷ h.below_link) la))
          (holds g.code a n.frames rest Fn fails ((memory stores g).may_close n) _ mc
          (is_found g.code a n.frames rest Fn fails ((memory stores g).answer n) q _ answer_at
          (holds g.code a n.frames rest Fn fails ((memory stores g).has q 1 n) _
          (subst (λ z. HasAnswer stores g n z) answer_at (an h.block h.layout h.is_body h.layout_is la))
          (ordinal g.code a n.frames rest Fn fails ((memory stores g).read q n) _
          (λ v. back_at (Number v ∷ h.below_link) (O ∷ k.shapes)
          (subst (λ t. Reaches g.code k.area k.position (with_answer t k.shapes)) la h.reached) (tt, h.operands))))))
      go false la es =
          subst (λ z. Fn (return_step (memory stores g) g.code z n))
          (sym (es ∙ ap (λ t. link_of t k.position ∷ h.below_link) la))
          (holds g.code a n.frames rest Fn fails ((memory stores g).may_close n) _ mc
          (back_at h.below_link k.shapes
          (subst (λ t. Reaches g.code k.area k.position (with_answer t k.shapes)) la h.reached) h.operands))

  -- nothing is left of the operands
  none_left : (zs : List Shape) → LeadsToReached g.code a (take_none zs) → Operands g.code.layouts n.frames zs st rest
      → st ≡ rest
  none_left [] gd o = o
  none_left (s ∷ zs) gd o = absurd gd

  -- an end
  at_bottom : (ks1 : List Caller) (fs : List Frame) → Under g.code ks1 a fs rest
      → ends_well g.code a (Some i.End) ≡ true → (ks1 ≡ []) × IsBottom a
  at_bottom [] fs u ew = (refl, u.1)
  at_bottom (k ∷ ks1) [] u ew = absurd u
  at_bottom (k ∷ ks1) (f ∷ fs) (h, _) ew = absurd
      (not_true_and_false (h.block == 0) (subst (λ z. ends_well g.code z (Some i.End) ≡ true) h.is_body ew)
      h.not_program)

  ends : ends_well g.code a (Some i.End) ≡ true → Fn (Stops Ends (At p st n))
  ends ew = (stopped Ends p st (at_bottom ks n.frames w.under ew), refl, refl)

  -- ---- each instruction

  abbrev pub At_ : Option Instr → Type 0
  At_ o = Here g.code a p ss o → MemorySuffices stores g a o ss n → Fn (instruction (memory stores g) g.code o p st n)

  sub : {o : Option Instr} → Here g.code a p ss o → Sub (stored_by g.code a o ss)
  sub h x m = subst (λ o. IsMember x (stored_by g.code a o ss)) (sym h.instruction_is) m

  pub fine : (o : Option Instr) → At_ o
  fine None h r = absurd h.good
  fine (Some (i.Const v)) h r = stays (p + 1) (O ∷ ss) (Number v ∷ st) h.good.0 (tt, w.operands)
  fine (Some (i.Addr up var)) h r = names_addr up var (variable_at g.code a up var) refl h.names h.good
    where
      names_addr : (up var : ℕ) (o : Option VariableInfo) → variable_at g.code a up var ≡ o
          → on_option false o (λ f. is_plain f.naming) ≡ true
          → LeadsToReached g.code a (on_option Wrong o (λ f. address_shapes p ss f.number f.cells))
          → Fn (on_some ((memory stores g).addr up var n) (λ q. Goes (At (p + 1) (Pointer q ∷ st) n)))
      names_addr up var None e k gd = absurd gd
      names_addr up var (Some f) e k gd =
          let q = sc.plain a n.frames up var f w.there w.framed e k in
          is_found g.code a n.frames rest Fn fails ((memory stores g).addr up var n) q.0 _ q.1
          (stays (p + 1) (A f.number f.cells ∷ ss) (Pointer q.0 ∷ st) gd.0 (q.2, w.operands))
  fine (Some (i.Deref up var)) h r = names_deref up var (variable_at g.code a up var) refl h.names h.good
    where
      names_deref : (up var : ℕ) (o : Option VariableInfo) → variable_at g.code a up var ≡ o
          → on_option false o (λ f. is_reference f.naming) ≡ true
          → LeadsToReached g.code a (on_option Wrong o (λ f. address_shapes p ss f.number f.cells))
          → Fn (on_some ((memory stores g).deref up var n) (λ q. Goes (At (p + 1) (Pointer q ∷ st) n)))
      names_deref up var None e k gd = absurd gd
      names_deref up var (Some f) e k gd =
          let q = sc.refers a n.frames up var f w.there w.framed e k in
          is_found g.code a n.frames rest Fn fails ((memory stores g).deref up var n) q.0 _ q.1
          (stays (p + 1) (A f.number f.cells ∷ ss) (Pointer q.0 ∷ st) gd.0 (q.2, w.operands))
  fine (Some (i.Index low high size)) h r = number g.code a n.frames rest Fn fails
      (λ zs. has_left (span low high * size) (below_topmost zs) ≡ true) ss st _ _ h.within w.operands h.good
      (λ v ts s1 z o1 g1.
      address g.code a n.frames rest Fn fails (λ zs. has_left (span low high * size) zs ≡ true) ts s1 _ _ z o1 g1
      (λ q x m us s2 z2 pt o2 g2.
      checked (int_le low v && int_le v high) _ _ (λ t.
      let k = in_span low high v t in
      let le = leb-true (span low high * size) m z2 in
      selects x m (nat_abs (v -ℤ low) * size) size q us s2 pt
      (within_span (nat_abs (v -ℤ low)) (span low high) size m k le) g2.0 o2) tt))
    where
      checked : (b : Bool) (x y : StepResult (Memory S)) → (b ≡ true → Fn x) → Fn y → Fn (if b then x else y)
      checked true x y h k = h refl
      checked false x y h k = k

      within_span : (k s size m : ℕ) → k + 1 ≤ s → s * size ≤ m → k * size + size ≤ m
      within_span k s size m h le = let z = mul-le-mul_right size h in omega (arith, z, le)
  fine (Some (i.Field k)) h r = address g.code a n.frames rest Fn fails
      (λ zs. has_left k zs ≡ true) ss st _ _ h.within w.operands h.good (λ q x m ts s1 z pt o1 g1.
      let le = leb-true k m z in
      selects x m k (m - k) q ts s1 pt (omega (arith, le)) g1.0 o1)
  fine (Some i.Load) h r = address g.code a n.frames rest Fn fails (λ zs. (has_left 1 zs ≡ true)
      × Whole (topmost_variable zs)) ss st _ _ (h.within, r.whole) w.operands h.good (λ q x m ts s1 z pt o1 g1.
      holds g.code a n.frames rest Fn fails ((memory stores g).has q 1 n) _
      (has_cells_left stores g.code.layouts n x m q pt (z.1 x (inl refl) pt.real) 1 (leb-true 1 m z.0))
      (ordinal g.code a n.frames rest Fn fails ((memory stores g).read q n) _
      (λ v. stays (p + 1) (O ∷ ts) (Number v ∷ s1) g1.0 (tt, o1))))
  fine (Some i.Loadc) h r = address g.code a n.frames rest Fn fails (λ zs. (has_left 1 zs ≡ true)
      × Whole (topmost_variable zs)) ss st _ _ (h.within, r.whole) w.operands h.good (λ q x m ts s1 z pt o1 g1.
      holds g.code a n.frames rest Fn fails ((memory stores g).has q 1 n) _
      (has_cells_left stores g.code.layouts n x m q pt (z.1 x (inl refl) pt.real) 1 (leb-true 1 m z.0))
      (channel_of g.code a n.frames rest Fn fails ((memory stores g).read q n) _
      (λ v. stays (p + 1) (C ∷ ts) (Chan v ∷ s1) g1.0 (tt, o1))))
  fine (Some i.Store) h r = value g.code a n.frames rest Fn fails (λ zs. (has_left 1 (below_topmost zs) ≡ true)
      × Whole (topmost_variable (below_topmost zs) ++ []) × Sub (topmost_variable (below_topmost zs))) ss st _ _
      (h.within, r.whole, sub h) w.operands h.good (λ v s ts s1 z o1 g1.
      address g.code a n.frames rest Fn fails (λ zs. (has_left 1 zs ≡ true) × Whole (topmost_variable zs ++ [])
      × Sub (topmost_variable zs)) ts s1 _ _ z o1 g1 (λ q x m us s2 z2 pt o2 g2.
      holds g.code a n.frames rest Fn fails ((memory stores g).has q 1 n) _
      (has_cells_left stores g.code.layouts n x m q pt (z2.1 x (inl refl) pt.real) 1 (leb-true 1 m z2.0))
      (lands (p + 1) us s2 ((memory stores g).put q v n) refl g2.0 o2
      (PutsCell q v refl (target q x m 1 pt (leb-true 1 m z2.0) (z2.2 x (inl refl))) refl))))
  fine (Some (i.Copy k)) h r = address g.code a n.frames rest Fn fails (λ zs. ((has_left k zs
      && has_left k (below_topmost zs)) ≡ true) × Whole (topmost_variable (below_topmost zs) ++ topmost_variable zs)
      × Sub (topmost_variable (below_topmost zs))) ss st _ _ (h.within, r.whole, sub h) w.operands h.good
      (λ q x m ts s1 z pt o1 g1.
      address g.code a n.frames rest Fn fails (λ zs. ((nat_le k m && has_left k zs) ≡ true)
      × Whole (topmost_variable zs ++ (x ∷ [])) × Sub (topmost_variable zs)) ts s1 _ _ z o1 g1
      (λ q2 y l us s2 z2 pt2 o2 g2.
      let b = and_parts (nat_le k m) (nat_le k l) z2.0 in
      holds g.code a n.frames rest Fn fails ((memory stores g).has q k n && (memory stores g).has q2 k n) _
      (and_from _ _ (has_cells_left stores g.code.layouts n x m q pt (z2.1 x (inr (inl refl)) pt.real) k
      (leb-true k m b.0)) (has_cells_left stores g.code.layouts n y l q2 pt2 (z2.1 y (inl refl) pt2.real) k
      (leb-true k l b.1)))
      (lands (p + 1) us s2 ((memory stores g).copy q2 q k n) refl g2.0 o2
      (Copies q2 q k refl (target q2 y l k pt2 (leb-true k l b.1) (z2.2 y (inl refl))) refl))))
  fine (Some i.Add) h r = two op.Add h.good
  fine (Some i.Sub) h r = two op.Sub h.good
  fine (Some i.Mul) h r = two op.Mul h.good
  fine (Some i.Div) h r = two op.Div h.good
  fine (Some i.Mod) h r = two op.Mod h.good
  fine (Some i.Neg) h r = alone (unary_op sign.Minus) h.good
  fine (Some i.Abs) h r = alone absolute_value h.good
  fine (Some i.Sqr) h r = alone square h.good
  fine (Some i.Odd) h r = alone is_odd h.good
  fine (Some i.And) h r = two op.And h.good
  fine (Some i.Or) h r = two op.Or h.good
  fine (Some i.Not) h r = alone (unary_op sign.Not) h.good
  fine (Some i.Eq) h r = equals g.code a n.frames rest Fn fails ss st _ _ w.operands h.good
      (λ b ts s1 o1 g1. tells b (p + 1) ts s1 g1.0 o1)
  fine (Some i.Ne) h r = equals g.code a n.frames rest Fn fails ss st _ _ w.operands h.good
      (λ b ts s1 o1 g1. tells (not b) (p + 1) ts s1 g1.0 o1)
  fine (Some i.Lt) h r = two op.Lt h.good
  fine (Some i.Le) h r = two op.Le h.good
  fine (Some i.Gt) h r = two op.Gt h.good
  fine (Some i.Ge) h r = two op.Ge h.good
  fine (Some (i.Range low high)) h r = alone (value_in_range low high) h.good
  fine (Some (i.Succ high)) h r = alone (successor high) h.good
  fine (Some (i.Pred low)) h r = alone (predecessor low) h.good
  fine (Some (i.Jump to)) h r = stays to ss st h.good.0 w.operands
  fine (Some (i.Jumpf to)) h r = number g.code a n.frames rest Fn fails (λ _. Unit {0}) ss st _ _ tt w.operands h.good
      (λ v ts s1 _ o1 (next_reached, (to_reached, _)). both g.code a n.frames rest Fn fails (not (int_le v (pos 0))) _ _
      (stays (p + 1) ts s1 next_reached o1) (stays to ts s1 to_reached o1))
  fine (Some (i.Casej v to)) h r = number g.code a n.frames rest Fn fails (λ _. Unit {0}) ss st _ _ tt w.operands h.good
      (λ u ts s1 _ o1 (next_reached, (to_reached, _)). both g.code a n.frames rest Fn fails (same_ordinal u v) _ _
      (stays to ts s1 to_reached o1) (stays (p + 1) (O ∷ ts) (Number u ∷ s1) next_reached (tt, o1)))
  fine (Some i.Nocase) h r = tt
  fine (Some i.Tick) h r = done g.code a n.frames rest Fn fails ((memory stores g).tick n) _ (λ m e.
      paces st m (p + 1) (lands_with (p + 1) ss st m (beat_frames stores g n m e) h.good.0 w.operands
      (Ticks refl (tick_is stores g n m e)))
      (record { area = a; position = p; shapes = ss; callers = ks; there = w.there; reached = w.reached; so = tt }))
  fine (Some i.Assume) h r = number g.code a n.frames rest Fn fails (λ _. Unit {0}) ss st _ _ tt w.operands h.good
      (λ v ts s1 _ o1 g1. both g.code a n.frames rest Fn fails (not (int_le v (pos 0))) _ _
      (stays (p + 1) ts s1 g1.0 o1) tt)
  fine (Some (i.Forup var to)) h r = begun false var to h.loops r.whole (sub h) h.good
  fine (Some (i.Fordown var to)) h r = begun true var to h.loops r.whole (sub h) h.good
  fine (Some (i.Nextup var to)) h r = goes_on false var to h.loops r.whole (sub h) h.good
  fine (Some (i.Nextdown var to)) h r = goes_on true var to h.loops r.whole (sub h) h.good
  fine (Some (i.Call b up)) h r = calls b up h.instruction_is (r.calls b up refl)
      (layout_of g.code.layouts b) refl h.levels h.fits r.whole h.good
  fine (Some i.Return) h r = returns_to h.instruction_is ks n.frames refl refl w.under h.ends (r.returns refl)
      (r.answers refl)
      (none_left ss h.good w.operands)
  fine (Some i.ReadInt) h r = read_item number_in h.within r.whole (sub h) (r.input (inl refl)) h.good
  fine (Some i.ReadChar) h r = read_item char_in h.within r.whole (sub h) (r.input (inl refl)) h.good
  fine (Some i.Readln) h r = let b = found_some ((memory stores g).left n) (r.input (inl refl)) in
      is_found g.code a n.frames rest Fn fails ((memory stores g).left n) b.0 _ b.1
      (lands (p + 1) ss st ((memory stores g).advance (line_length b.0) n) refl h.good.0 w.operands
      (Skips (line_length b.0) refl (sub h 0 (inl refl)) refl))
  fine (Some i.Eof) h r = let b = found_some ((memory stores g).left n) (r.input (inl refl)) in
      is_found g.code a n.frames rest Fn fails ((memory stores g).left n) b.0 _ b.1
      (tells (length b.0 == 0) (p + 1) ss st h.good.0 w.operands)
  fine (Some i.Eoln) h r = let b = found_some ((memory stores g).left n) (r.input (inl refl)) in
      is_found g.code a n.frames rest Fn fails ((memory stores g).left n) b.0 _ b.1
      (tells (at_line_end b.0) (p + 1) ss st h.good.0 w.operands)
  fine (Some i.WriteInt) h r = written signed_decimal (r.output (inl refl)) (sub h) h.good
  fine (Some i.WriteChar) h r = written (λ v. byte v ∷ []) (r.output (inl refl)) (sub h) h.good
  fine (Some i.WriteBool) h r = written truth_text (r.output (inl refl)) (sub h) h.good
  fine (Some (i.WriteText k)) h r = let t = found (slice_get g.code.texts k) h.named in
      is_found g.code a n.frames rest Fn fails (slice_get g.code.texts k) t.0 _ t.1
      (printed t.0 (p + 1) ss st (r.output (inl refl)) (sub h) h.good.0 w.operands)
  fine (Some i.WritewInt) h r = written_wide false signed_decimal (r.output (inl refl)) (sub h) h.good
  fine (Some i.WritewChar) h r = written_wide false (λ v. byte v ∷ []) (r.output (inl refl)) (sub h) h.good
  fine (Some i.WritewBool) h r = written_wide true truth_text (r.output (inl refl)) (sub h) h.good
  fine (Some (i.WritewText k)) h r = number g.code a n.frames rest Fn fails
      (λ _. Unit {0}) ss st _ _ tt w.operands h.good (λ m ts s1 _ o1 g1.
      let t = found (slice_get g.code.texts k) h.named in is_found g.code a n.frames rest Fn fails
      (slice_get g.code.texts k) t.0 _ t.1 (wides true t.0 m (p + 1) ts s1 (r.output (inl refl)) (sub h) g1.0 o1))
  fine (Some i.Writeln) h r = printed (10 ∷ []) (p + 1) ss st (r.output (inl refl)) (sub h) h.good.0 w.operands
  fine (Some (i.Pack k)) h r = packs k h.within r.whole h.good
  fine (Some i.Open) h r = opens h.instruction_is h.within r.whole h.good
  fine (Some (i.Send k)) h r = sends k h.instruction_is h.good
  fine (Some (i.Receive k)) h r = receives k h.instruction_is r.whole h.good
  fine (Some (i.Fork t)) h r = let tb = found (slice_get g.code.forks t) h.named in
      is_found g.code a n.frames rest Fn fails (slice_get g.code.forks t) tb.0 _ tb.1
      (forks t (pos 0) (length tb.0.children) ss st (inl (tb.0, h.instruction_is, tb.1, refl)) h.good.0 w.operands)
  fine (Some (i.Forall t)) h r = number g.code a n.frames rest Fn fails (λ _. Unit {0}) ss st _ _ tt w.operands h.good
      (λ last ts s1 _ o1 g1.
      number g.code a n.frames rest Fn fails (λ _. Unit {0}) ts s1 _ _ tt o1 g1 (λ first us s2 _ o2 g2.
      both g.code a n.frames rest Fn fails (int_lt last first) _ _ (stays (p + 1) us s2 g2.0 o2)
      (forks t first (values_in first last) us s2 (inr h.instruction_is) g2.0 o2)))
  fine (Some i.End) h r = ends h.ends
