-- A call: its arguments, the new frame, and what the definition makes of it.
use Rattle.std.proofs.Common.{◌≡◌, ◌≢◌, ℕ, zero, suc, ◌+◌, ◌≤◌, ◌<◌, List, [], ◌∷◌, ◌++◌, length, take, drop, get_or}
use Rattle.std.proofs.Common.{replicate, Option, Some, None, Bool, true, false, refl, sym, ap, ◌∙◌, subst, arith}
use Rattle.std.proofs.Common.{append_assoc}
use Rattle.std.specs.Prelude.{IfSome, if◌then◌else◌, reverse, slice_get, nat_lt, nat_le, sum}
use Rattle.std.proofs.lemmas.List.{append-nil, reverse-append, drop_all, length-replicate}
use Rattle.std.proofs.Math.Seq.{drop-cons}
use Rattle.std.proofs.lemmas.Bool.{lt-ltb, le-ltb, eqb-true, leb-true, and_parts}
use Rattle.std.specs.FinMap as map
use Rattle.std.proofs.lemmas.Option.{same_Some}
use Rattle.sp_base.specs.declared.fault.Fault.{Fault}
use Rattle.sp_base.specs.declared.fault.Fault.TheVariants as fault
use Rattle.sp_base.specs.declared.limits.Limits.{Limits}
use Rattle.sp_cell.specs.declared.cell.Cell.{Cell}
use Rattle.sp_cell.specs.declared.cell.Cell.TheVariants as cell
use Rattle.sp_cell.specs.declared.spot.Spot.{Spot}
use Rattle.sp_cell.specs.declared.spot.Address.{Address}
use Rattle.sp_cell.specs.Map.{Content, Own, Map, Plain, IsOwn, HasCells, cells_of}
use Rattle.sp_cell.specs.Frame.{with_pieces, with_new_frame, next_frame}
use Rattle.sp_cell.proofs.Laws.{get_other, get_here, piece_of_own}
use Rattle.sp_code.specs.declared.code.Formal.{Formal}
use Rattle.sp_code.specs.declared.code.Formal.TheVariants as formal
use Rattle.sp_code.specs.declared.code.Layout.{Layout}
use Rattle.sp_code.specs.declared.code.Parts.{Parts}
use Rattle.sp_code.specs.Machine as m
use Rattle.sp_code.specs.Memory.{Memory, CodeRun, memory, references, with_arguments, memory_after_call, pushes}
use Rattle.sp_code.specs.Memory.{is_there, frames_up}
use Rattle.sp_code.specs.PlainStore.{plain}
use Rattle.sp_machine.specs.declared.stack.Operand.{Operand}
use Rattle.sp_machine.specs.declared.stack.Operand.TheVariants as operand
use Rattle.sp_machine.specs.Arguments.{HasOwn, Takes, TakeAll}
use Rattle.sp_machine.specs.StackEntries.{entry_of, entries_of, pointer_in}
use Rattle.sp_code.specs.Sound.{run_of}
use Rattle.sp_machine.specs.declared.state.State.{State}
use Rattle.sp_machine.specs.declared.state.Stop.{Stop}
use Rattle.sp_code.specs.Formals.{HasRoom}
use Rattle.sp_machine.specs.declared.state.Outcome.{Outcome}
use Rattle.sp_machine.specs.declared.state.Outcome.TheVariants as outcome
use Rattle.sp_machine.specs.Procs.{StepMatches, CameBy, told_by, KeepsNumberAndInput, memory_of, code_run_of}

-- ---- arguments one after another

next_entry : (os : List Operand) (i : ℕ) (o : Operand) → i < length os → o ≡ get_or os i o
    → entries_of (drop i os) ≡ entry_of o ∷ entries_of (drop (i + 1) os)
next_entry os i o h e =
    let one : suc i ≡ i + 1 = omega arith in
    ap entries_of (drop-cons os i o h ∙ ap (λ (x : Operand). x ∷ drop (suc i) os) (sym e) ∙ ap (λ n. o ∷ drop n os) one)

one_more : (k : ℕ) (o : Operand) (es : List m.Entry) (found : List (ℕ × Address)) (a : Address) → pointer_in o ≡ Some a
    → found ++ references k (entry_of o ∷ es) ≡ (found ++ (k, a) ∷ []) ++ references (k + 1) es
one_more k (operand.Pointer b) es found a e =
    let same : b ≡ a = same_Some b a e in
    let one : suc k ≡ k + 1 = omega arith in
    ap (λ (x : Address). found ++ (k, x) ∷ references (suc k) es) same ∙ ap (λ n. found ++ (k, a) ∷ references n es) one
    ∙ sym (append_assoc found ((k, a) ∷ []) (references (k + 1) es))
one_more k _ es found a e = absurd cc

no_more : (k : ℕ) (o : Operand) (es : List m.Entry) → pointer_in o ≡ None
    → references k (entry_of o ∷ es) ≡ references (k + 1) es
no_more k (operand.Pointer b) es e = absurd cc
no_more k _ es _ = let one : suc k ≡ k + 1 = omega arith in ap (λ j. references j es) one

pub references_pointer : (os : List Operand) (found : List (ℕ × Address)) (i : ℕ) (o : Operand) (a : Address)
    → i < length os → o ≡ get_or os i o → pointer_in o ≡ Some a
    → found ++ references i (entries_of (drop i os)) ≡ (found ++ (i, a) ∷ [])
    ++ references (i + 1) (entries_of (drop (i + 1) os))
references_pointer os found i o a h e p = ap (λ (es : List m.Entry). found ++ references i es) (next_entry os i o h e)
    ∙ one_more i o (entries_of (drop (i + 1) os)) found a p

pub references_other : (os : List Operand) (i : ℕ) (o : Operand) → i < length os → o ≡ get_or os i o
    → pointer_in o ≡ None → references i (entries_of (drop i os)) ≡ references (i + 1) (entries_of (drop (i + 1) os))
references_other os i o h e p = ap (references i) (next_entry os i o h e) ∙ no_more i o (entries_of (drop (i + 1) os)) p

pub references_end : (os : List Operand) (found : List (ℕ × Address)) (i : ℕ) → length os ≤ i
    → found ++ references i (entries_of (drop i os)) ≡ found
references_end os found i h = ap (λ (es : List Operand). found ++ references i (entries_of es)) (drop_all i os h)
    ∙ append-nil found

-- ---- values in their variables

other_spot : (n j k : ℕ) → j ≢ k → ◌≢◌ {A = Spot} (record { frame = n; variable = j })
    (record { frame = n; variable = k })
other_spot n j k h e = h (ap (λ (s : Spot). s.variable) e)

keeps_own : (mm : Map) (n j k c : ℕ) (cs : List Cell) → j ≢ k → HasOwn mm (record { frame = n; variable = j }) c
    → HasOwn (map.insert mm (record { frame = n; variable = k }) (Own cs)) (record { frame = n; variable = j }) c
keeps_own mm n j k c cs h w =
    let same : map.get (map.insert mm (record { frame = n; variable = k }) (Own cs))
    (record { frame = n; variable = j }) ≡ map.get mm (record { frame = n; variable = j })
    = get_other mm (record { frame = n; variable = k }) (Own cs) (record { frame = n; variable = j })
    (other_spot n j k h) in
    (subst IsOwn (sym same) w.0, subst (λ (o : Option Content). c ≤ length (cells_of o)) (sym same) w.1)

keeps_one : (mm : Map) (n j k : ℕ) (cs : List Cell) (e : m.Entry) → j ≢ k → Takes mm n j e
    → Takes (map.insert mm (record { frame = n; variable = k }) (Own cs)) n j e
keeps_one mm n j k cs (m.Number v) h w = keeps_own mm n j k 1 cs h w
keeps_one mm n j k cs (m.Chan v) h w = keeps_own mm n j k 1 cs h w
keeps_one mm n j k cs (m.Pointer a) h w = tt
keeps_one mm n j k cs (m.Cells xs) h w = keeps_own mm n j k (length xs) cs h w
keeps_one mm n j k cs (m.Link r) h w = tt
keeps_one mm n j k cs (m.Reply r) h w = tt

keeps_all : (mm : Map) (n j k : ℕ) (cs : List Cell) (es : List m.Entry) → k < j → TakeAll mm n j es
    → TakeAll (map.insert mm (record { frame = n; variable = k }) (Own cs)) n j es
keeps_all mm n j k cs [] h w = tt
keeps_all mm n j k cs (e ∷ es) h w =
    let apart : j ≢ k = λ x. absurd (omega (arith, h, x)) in
    (keeps_one mm n j k cs e apart w.0, keeps_all mm n (suc j) k cs es (omega (arith, h)) w.1)

after_one : (s : Plain) (n k : ℕ) (e : m.Entry) (es : List m.Entry) → TakeAll s.map n (suc k) es
    → TakeAll (with_arguments plain n k (e ∷ []) s).map n (suc k) es
after_one s n k (m.Number v) es w = keeps_all s.map n (suc k) k _ es (omega arith) w
after_one s n k (m.Chan v) es w = keeps_all s.map n (suc k) k _ es (omega arith) w
after_one s n k (m.Pointer a) es w = w
after_one s n k (m.Cells xs) es w = keeps_all s.map n (suc k) k _ es (omega arith) w
after_one s n k (m.Link r) es w = w
after_one s n k (m.Reply r) es w = w

fill_apart : (s : Plain) (n k : ℕ) (e : m.Entry) (es : List m.Entry)
    → with_arguments plain n k (e ∷ es) s ≡ with_arguments plain n (suc k) es (with_arguments plain n k (e ∷ []) s)
fill_apart s n k (m.Number v) es = refl
fill_apart _ _ _ _ _ = refl

pub fill_step : (os : List Operand) (s : Plain) (n i : ℕ) (o : Operand) → i < length os → o ≡ get_or os i o
    → with_arguments plain n i (entries_of (drop i os)) s
    ≡ with_arguments plain n (i + 1) (entries_of (drop (i + 1) os)) (with_arguments plain n i (entries_of (o ∷ [])) s)
fill_step os s n i o h e =
    let one : suc i ≡ i + 1 = omega arith in
    ap (λ (es : List m.Entry). with_arguments plain n i es s) (next_entry os i o h e)
    ∙ fill_apart s n i (entry_of o) (entries_of (drop (i + 1) os))
    ∙ ap (λ k. with_arguments plain n k (entries_of (drop (i + 1) os))
    (with_arguments plain n i (entries_of (o ∷ [])) s)) one

pub take_here : (os : List Operand) (s : Plain) (n i : ℕ) (o : Operand) → i < length os → o ≡ get_or os i o
    → TakeAll s.map n i (entries_of (drop i os)) → TakeAll s.map n i (entries_of (o ∷ []))
take_here os s n i o h e w = (
  let v : TakeAll s.map n i (entry_of o ∷ entries_of (drop (i + 1) os)) =
      subst (TakeAll s.map n i) (next_entry os i o h e) w in v.0,
  tt,
)

pub take_step : (os : List Operand) (s : Plain) (n i : ℕ) (o : Operand) → i < length os → o ≡ get_or os i o
    → TakeAll s.map n i (entries_of (drop i os))
    → TakeAll (with_arguments plain n i (entries_of (o ∷ [])) s).map n (i + 1) (entries_of (drop (i + 1) os))
take_step os s n i o h e w =
    let one : suc i ≡ i + 1 = omega arith in
    let v : TakeAll s.map n i (entry_of o ∷ entries_of (drop (i + 1) os)) =
    subst (TakeAll s.map n i) (next_entry os i o h e) w in
    subst (λ k. TakeAll (with_arguments plain n i (entries_of (o ∷ [])) s).map n k (entries_of (drop (i + 1) os))) one
    (after_one s n i (entry_of o) (entries_of (drop (i + 1) os)) v.1)

pub fill_end : (os : List Operand) (s : Plain) (n i : ℕ) → length os ≤ i
    → with_arguments plain n i (entries_of (drop i os)) s ≡ s
fill_end os s n i h = ap (λ (x : List Operand). with_arguments plain n i (entries_of x) s) (drop_all i os h)

pub own_has : (mm : Map) (q : Spot) (c : ℕ) → HasOwn mm q c → HasCells mm (record { spot = q; offset = 0 }) c
own_has mm q c h = (piece_of_own (map.get mm q) h.0, omega (arith, h.1))

-- ---- the pieces of a new frame

pieces_stay : (mm : Map) (n v k : ℕ) (cs : List ℕ) → k < v
    → map.get (with_pieces mm n v cs) (record { frame = n; variable = k })
    ≡ map.get mm (record { frame = n; variable = k })
pieces_stay mm n v k [] h = refl
pieces_stay mm n v k (c ∷ cs) h =
    let apart : k ≢ v = λ x. absurd (omega (arith, h, x)) in
    pieces_stay (map.insert mm (record { frame = n; variable = v }) (Own (replicate c cell.Undefined))) n (v + 1) k cs
    (omega (arith, h))
    ∙ get_other mm (record { frame = n; variable = v }) (Own (replicate c cell.Undefined))
    (record { frame = n; variable = k }) (other_spot n k v apart)

new_piece : (mm : Map) (n v c k : ℕ) (cs : List ℕ) → k ≤ c
    → HasOwn (with_pieces mm n v (c ∷ cs)) (record { frame = n; variable = v }) k
new_piece mm n v c k cs h =
    let is : map.get (with_pieces mm n v (c ∷ cs)) (record { frame = n; variable = v })
    ≡ Some (Own (replicate c cell.Undefined))
    = pieces_stay (map.insert mm (record { frame = n; variable = v }) (Own (replicate c cell.Undefined))) n (v + 1) v cs
    (omega arith) ∙ get_here mm (record { frame = n; variable = v }) (Own (replicate c cell.Undefined)) in (
      subst IsOwn (sym is) tt,
      subst (λ (o : Option Content). k ≤ length (cells_of o)) (sym is)
          (rw (length-replicate c cell.Undefined) h),
    )

first_takes : (mm : Map) (n v : ℕ) (f : Formal) (e : m.Entry) (c : ℕ) (cs : List ℕ) → m.fits_formal f e ≡ true
    → HasRoom f (Some c) → Takes (with_pieces mm n v (c ∷ cs)) n v e
first_takes mm n v (formal.Value k) (m.Number x) c cs e h = let w : k ≡ 1 = eqb-true k 1 e in
    new_piece mm n v c 1 cs (omega (arith, w, h))
first_takes mm n v (formal.Value k) (m.Chan x) c cs e h = let w : k ≡ 1 = eqb-true k 1 e in
    new_piece mm n v c 1 cs (omega (arith, w, h))
first_takes mm n v (formal.Value k) (m.Pointer a) c cs e h = tt
first_takes mm n v (formal.Value k) (m.Cells xs) c cs e h = let w : length xs ≡ k = eqb-true (length xs) k e in
    new_piece mm n v c (length xs) cs (omega (arith, w, h))
first_takes mm n v (formal.Value k) (m.Link r) c cs e h = tt
first_takes mm n v (formal.Value k) (m.Reply r) c cs e h = tt
first_takes mm n v (formal.Reference k) (m.Number x) c cs e h = absurd cc
first_takes mm n v (formal.Reference k) (m.Chan x) c cs e h = absurd cc
first_takes mm n v (formal.Reference k) (m.Pointer a) c cs e h = tt
first_takes mm n v (formal.Reference k) (m.Cells xs) c cs e h = absurd cc
first_takes mm n v (formal.Reference k) (m.Link r) c cs e h = tt
first_takes mm n v (formal.Reference k) (m.Reply r) c cs e h = tt

take_from : (mm : Map) (n v : ℕ) (fs : List Formal) (es : List m.Entry) (ss : List ℕ) → m.fit_formals fs es ≡ true
    → ((k : ℕ) (f : Formal) → slice_get fs k ≡ Some f → HasRoom f (slice_get ss k))
    → TakeAll (with_pieces mm n v ss) n v es
take_from mm n v [] [] ss e h = tt
take_from mm n v [] (x ∷ es) ss e h = absurd cc
take_from mm n v (f ∷ fs) [] ss e h = absurd cc
take_from mm n v (f ∷ fs) (x ∷ es) [] e h = absurd (none f (h 0 f refl))
  where
    none : (f : Formal) → HasRoom f None → ⊥
    none f w = w
take_from mm n v (f ∷ fs) (x ∷ es) (c ∷ ss) e h =
    let w = and_parts (m.fits_formal f x) (m.fit_formals fs es) e in
    let one : v + 1 ≡ suc v = omega arith in (
      first_takes mm n v f x c ss w.0 (h 0 f refl),
      subst (λ j. TakeAll (with_pieces (map.insert mm (record { frame = n; variable = v })
          (Own (replicate c cell.Undefined))) n (v + 1) ss) n j es) one
          (take_from (map.insert mm (record { frame = n; variable = v }) (Own (replicate c cell.Undefined))) n (v + 1)
          fs es ss w.1 (λ k g q. h (suc k) g q)),
    )

-- the variables of a new frame take the arguments that fit
pub take_all : (s : Plain) (l : Layout) (es : List m.Entry) → m.fit_formals l.formals es ≡ true
    → ((k : ℕ) (f : Formal) → slice_get l.formals k ≡ Some f → HasRoom f (slice_get l.sizes k))
    → TakeAll (with_new_frame s l.sizes).map (next_frame s) 0 es
take_all s l es e h = take_from s.map (next_frame s) 0 l.formals es l.sizes e h

-- ---- what the definition makes of a call

pub entries_append : (os ps : List Operand) → entries_of (os ++ ps) ≡ entries_of os ++ entries_of ps
entries_append [] ps = refl
entries_append (o ∷ os) ps = ap (λ (es : List m.Entry). entry_of o ∷ es) (entries_append os ps)

module _ {M : Type 0} (go : List m.Entry → List m.Entry → m.StepResult M) where
  popped_onto : (k : ℕ) (os : List Operand) (es : List m.Entry) → k ≤ length os
      → m.pop k (entries_of os) es go ≡ go (entries_of (reverse (take k os)) ++ es) (entries_of (drop k os))
  popped_onto zero os es h = refl
  popped_onto (suc k) [] es h = absurd (omega (arith, h))
  popped_onto (suc k) (o ∷ os) es h =
      popped_onto k os (entry_of o ∷ es) (omega (arith, h))
      ∙ ap (λ (xs : List m.Entry). go xs (entries_of (drop k os)))
      (sym (ap (λ (xs : List m.Entry). xs ++ es)
      (ap entries_of (reverse-append (o ∷ []) (take k os)) ∙ entries_append (reverse (take k os)) (o ∷ []))
      ∙ append_assoc (entries_of (reverse (take k os))) (entry_of o ∷ []) es))

  pub pops : (k : ℕ) (os : List Operand) → k ≤ length os
      → m.pop k (entries_of os) [] go ≡ go (entries_of (reverse (take k os))) (entries_of (drop k os))
  pops k os h = popped_onto k os [] h ∙ ap (λ (xs : List m.Entry). go xs (entries_of (drop k os)))
      (append-nil (entries_of (reverse (take k os))))

  pub pops_enough : (k : ℕ) (os : List Operand) (es : List m.Entry) → m.pop k (entries_of os) es go ≢ m.Stuck
      → k ≤ length os
  pops_enough zero os es h = omega arith
  pops_enough (suc k) [] es h = absurd (h refl)
  pops_enough (suc k) (o ∷ os) es h = let w = pops_enough k os (entry_of o ∷ es) h in omega (arith, w)

module _ {M : Type 0} where
  pub when_true : (b : Bool) (o : m.StepResult M) → m.when b o ≢ m.Stuck → b ≡ true
  when_true true o h = refl
  when_true false o h = absurd (h refl)

  pub when_is : (b : Bool) (o : m.StepResult M) → b ≡ true → m.when b o ≡ o
  when_is b o e = rw e refl

module _ (g : CodeRun) (code : Parts) (l : Layout) (up r : ℕ) (os : List Operand) (n : Memory Plain) where
  abbrev arguments : List m.Entry
  arguments = entries_of (reverse (take (length l.formals) os))

  abbrev rest : List m.Entry
  rest = entries_of (drop (length l.formals) os)

  abbrev call : m.StepResult (Memory Plain)
  call = m.call_step (memory plain g) code l up r (entries_of os) n

  abbrev go_on : List m.Entry → Memory Plain → m.StepResult (Memory Plain)
  go_on st x = m.enter_step (memory plain g) code l r st x

  abbrev third : List m.Entry → List m.Entry → m.StepResult (Memory Plain)
  third es st = m.then_go (pushes plain g l up es n) (go_on st)

  abbrev second : List m.Entry → List m.Entry → m.StepResult (Memory Plain)
  second es st = m.when ((memory plain g).can_push up n) (third es st)

  abbrev begun : List m.Entry → List m.Entry → m.StepResult (Memory Plain)
  begun es st = m.when (m.fit_formals l.formals es) (second es st)

  -- the tests of a call, from the last one on
  abbrev cells_test : m.MemoryResult (Memory Plain)
  cells_test = if nat_lt g.limits.cells (n.cells + sum l.sizes) then m.Failed fault.F12 else
      m.Done (memory_after_call plain g l up arguments n)

  abbrev depth_test : m.MemoryResult (Memory Plain)
  depth_test = if nat_lt n.depth g.limits.depth then cells_test else m.Failed fault.F11

  module _ (safe : call ≢ m.Stuck) where
    pub call_enough : length l.formals ≤ length os
    call_enough = pops_enough begun (length l.formals) os [] safe

    begun_safe : begun arguments rest ≢ m.Stuck
    begun_safe e = safe (pops begun (length l.formals) os call_enough ∙ e)

    pub call_fits : m.fit_formals l.formals arguments ≡ true
    call_fits = when_true (m.fit_formals l.formals arguments) (second arguments rest) begun_safe

    pub call_may : (memory plain g).can_push up n ≡ true
    call_may = when_true ((memory plain g).can_push up n) (third arguments rest)
        (λ e. begun_safe (when_is (m.fit_formals l.formals arguments) (second arguments rest) call_fits ∙ e))

    pub call_numbered : next_frame n.store ≤ 18446744073709551615
    call_numbered = leb-true (next_frame n.store) 18446744073709551615
        (and_parts (is_there (frames_up up n.frames)) (nat_le (next_frame n.store) 18446744073709551615) call_may).1

    call_is : call ≡ third arguments rest
    call_is = pops begun (length l.formals) os call_enough
        ∙ when_is (m.fit_formals l.formals arguments) (second arguments rest) call_fits
        ∙ when_is ((memory plain g).can_push up n) (third arguments rest) call_may

    pub call_f10 : g.limits.ticks ≤ n.ticks → call ≡ m.Fails fault.F10
    call_f10 h = call_is ∙ ap (λ (b : Bool). m.then_go (if b then depth_test else m.Failed fault.F10) (go_on rest))
        (le-ltb n.ticks g.limits.ticks h)

    in_time : n.ticks < g.limits.ticks → call ≡ m.then_go depth_test (go_on rest)
    in_time h = call_is ∙ ap (λ (b : Bool). m.then_go (if b then depth_test else m.Failed fault.F10) (go_on rest))
        (lt-ltb n.ticks g.limits.ticks h)

    pub call_f11 : n.ticks < g.limits.ticks → g.limits.depth ≤ n.depth → call ≡ m.Fails fault.F11
    call_f11 h k = in_time h ∙ ap (λ (b : Bool). m.then_go (if b then cells_test else m.Failed fault.F11) (go_on rest))
        (le-ltb n.depth g.limits.depth k)

    not_deep : n.ticks < g.limits.ticks → n.depth < g.limits.depth → call ≡ m.then_go cells_test (go_on rest)
    not_deep h k = in_time h ∙ ap (λ (b : Bool). m.then_go (if b then cells_test else m.Failed fault.F11) (go_on rest))
        (lt-ltb n.depth g.limits.depth k)

    pub call_f12 : n.ticks < g.limits.ticks → n.depth < g.limits.depth → g.limits.cells < n.cells + sum l.sizes
        → call ≡ m.Fails fault.F12
    call_f12 h k q = not_deep h k ∙ ap (λ (b : Bool). m.then_go
        (if b then m.Failed fault.F12 else m.Done (memory_after_call plain g l up arguments n)) (go_on rest))
        (lt-ltb g.limits.cells (n.cells + sum l.sizes) q)

    pub call_done : n.ticks < g.limits.ticks → n.depth < g.limits.depth → n.cells + sum l.sizes ≤ g.limits.cells
        → call ≡ m.enter_step (memory plain g) code l r rest (memory_after_call plain g l up arguments n)
    call_done h k q = not_deep h k ∙ ap (λ (b : Bool). m.then_go
        (if b then m.Failed fault.F12 else m.Done (memory_after_call plain g l up arguments n)) (go_on rest))
        (le-ltb g.limits.cells (n.cells + sum l.sizes) q)

-- ---- the end of a call

abbrev NeverFails : m.StepResult (Memory Plain) → Type 0
NeverFails (m.Goes d) = Unit {0}
NeverFails (m.Stops t d) = Unit {0}
NeverFails (m.Fails f) = ⊥
NeverFails m.Stuck = Unit {0}

came_any : (o : m.StepResult (Memory Plain)) (p s q : State) (x : Option Stop) → NeverFails o → StepMatches o s q x
    → StepMatches o p q x
came_any (m.Goes d) p s q None h w = w
came_any (m.Goes d) p s q (Some x) h w = w
came_any (m.Stops t d) p s q None h w = w
came_any (m.Stops t d) p s q (Some x) h w = w
came_any (m.Fails f) p s q x h w = absurd h
came_any m.Stuck p s q x h w = w

came_told : (o : m.StepResult (Memory Plain)) (p s q : State) (t : Option (Option Stop)) → NeverFails o
    → IfSome t (λ x. StepMatches o s q x) → IfSome t (λ x. StepMatches o p q x)
came_told o p s q None h w = tt
came_told o p s q (Some x) h w = came_any o p s q x h w

entered_never : (g : CodeRun) (code : Parts) (l : Layout) (r : ℕ) (st : List m.Entry) (n : Memory Plain)
    → NeverFails (m.enter_step (memory plain g) code l r st n)
entered_never g code l r st n = go l.answer (m.is_in_no_function st) ((memory plain g).due n)
  where
    go : (a b d : Bool) → NeverFails (if a then m.Goes (m.At l.entry (m.Reply r ∷ st) n) else
        (if b then (if d then m.Stops m.Pauses (m.At l.entry (m.Link r ∷ st) n) else
        m.Goes (m.At l.entry (m.Link r ∷ st) n)) else m.Goes (m.At l.entry (m.Link r ∷ st) n)))
    go true b d = tt
    go false true true = tt
    go false true false = tt
    go false false d = tt

module _ (p s q : State) (code : Parts) (lim : Limits) (l : Layout) (up : ℕ)
    (safe : call (code_run_of p code lim) code l up (p.pc + 1) p.stack (memory_of p) ≢ m.Stuck)
    (ticks : p.ticks < lim.ticks) (depth : p.depth < lim.depth) (cells : p.cells + sum l.sizes ≤ lim.cells)
    (opens : memory_of s ≡ memory_after_call plain (code_run_of p code lim) l up
    (arguments (code_run_of p code lim) code l up (p.pc + 1) p.stack (memory_of p)) (memory_of p))
    (stack : s.stack ≡ drop (length l.formals) p.stack) (place : s.pc ≡ p.pc) (same : KeepsNumberAndInput p s) where
  abbrev new : Memory Plain
  new = memory_after_call plain (code_run_of p code lim) l up
      (arguments (code_run_of p code lim) code l up (p.pc + 1) p.stack (memory_of p)) (memory_of p)

  alike : m.enter_step (memory plain (code_run_of p code lim)) code l (p.pc + 1)
      (entries_of (drop (length l.formals) p.stack)) new
      ≡ m.enter_step (memory plain (code_run_of s code lim)) code l (s.pc + 1) (entries_of s.stack) (memory_of s)
  alike =
      let code_run : code_run_of p code lim ≡ code_run_of s code lim = ap (λ i. run_of code i.value lim) (sym same.1) in
      ap (λ (g : CodeRun). m.enter_step (memory plain g) code l (p.pc + 1)
      (entries_of (drop (length l.formals) p.stack))
      new) code_run
      ∙ ap (λ k. m.enter_step (memory plain (code_run_of s code lim)) code l (k + 1)
      (entries_of (drop (length l.formals) p.stack)) new) (sym place)
      ∙ ap (λ (os : List Operand). m.enter_step (memory plain (code_run_of s code lim)) code l (s.pc + 1)
      (entries_of os)
      new) (sym stack)
      ∙ ap (λ (n : Memory Plain). m.enter_step (memory plain (code_run_of s code lim)) code l (s.pc + 1)
      (entries_of s.stack) n) (sym opens)

  pub call_came : (r : Outcome)
      → CameBy (m.enter_step (memory plain (code_run_of s code lim)) code l (s.pc + 1) (entries_of s.stack)
      (memory_of s)) s q r
      → CameBy (call (code_run_of p code lim) code l up (p.pc + 1) p.stack (memory_of p)) p q r
  call_came r w = subst (λ (o : m.StepResult (Memory Plain)). CameBy o p q r)
      (sym (call_done (code_run_of p code lim) code l up (p.pc + 1) p.stack (memory_of p) safe ticks depth cells
      ∙ alike))
      (came_told _ p s q (told_by q r) (entered_never (code_run_of s code lim) code l (s.pc + 1) (entries_of s.stack)
      (memory_of s)) w)

pub faulted : (o : m.StepResult (Memory Plain)) (f : Fault) (p : State) → o ≡ m.Fails f
    → CameBy o p p (outcome.Fault f)
faulted o f p e = subst (λ (x : m.StepResult (Memory Plain)). CameBy x p p (outcome.Fault f)) (sym e) (refl, refl)
