-- A call: the new activation holds its effects, and the others what they held.
use Rattle.std.proofs.Common.{◌≡◌, ◌≢◌, ◌⊎◌, inl, inr, ⊎_elim, ℕ, suc, ◌+◌, ◌≤◌, ◌<◌, ◌==◌, List, [], ◌∷◌, ◌++◌, length}
use Rattle.std.proofs.Common.{drop, Some, Bool, true, false, refl, sym, ap, ◌∙◌, subst, arith, zero-add}
use Rattle.std.specs.Prelude.{IsSome, replicate, slice_get}
use Rattle.std.proofs.lemmas.List.{length-append, length-replicate}
use Rattle.std.specs.FinMap as map
use Rattle.sp_tree.specs.Interference.{IsMember, AllDifferent}
use Rattle.sp_tree.proofs.Members.{member_front, member_back, member_either}
use Rattle.sp_cell.specs.declared.cell.Cell.{Cell}
use Rattle.sp_cell.specs.declared.cell.Cell.TheVariants as cell
use Rattle.sp_cell.specs.declared.spot.Spot.{Spot}
use Rattle.sp_cell.specs.declared.spot.Address.{Address}
use Rattle.sp_cell.specs.Frame.{next_frame, with_pieces}
use Rattle.sp_cell.proofs.FrameLaws.{known_below}
use Rattle.sp_cell.proofs.Laws.{get_other, get_here, same_or, known_of_held, own_away, pieces_not_away}
use Rattle.sp_cell.specs.Map.{Own, Away, Plain, IsHeld, output_spot, with_own_piece}
use Rattle.sp_cell.specs.Spots.{In}
use Rattle.sp_code.specs.declared.code.Formal.TheVariants as formal
use Rattle.sp_code.specs.declared.code.Layout.{Layout}
use Rattle.sp_code.specs.Machine.{Entry, fit_formals, layout_of}
use Rattle.sp_code.specs.Memory.{Home, OfBlock, Frame, frames_up, references, reference_target, with_arguments}
use Rattle.sp_code.specs.PlainStore.{plain, piece_of}
use Rattle.sp_code.specs.System.{spot_of}
use Rattle.sp_verify_rules.specs.Chains.{Chain, all_variables}
use Rattle.sp_verify_rules.specs.HeldEffects.{Allowed, AllAllowed, Holding, input_spot}
use Rattle.sp_verify_rules.proofs.Calls.{chain_new, callee}
use Rattle.sp_verify_rules.proofs.Holdings.{head, rebound, next_low}
use Rattle.sp_verify_rules.proofs.StoreLaws.{all_keeps, keeps_same}
use Rattle.sp_code.proofs.Pieces.{pieces_other, pieces_at}
use Rattle.sp_verify_rules.proofs.Pieces.{HasLength, HaveRoom, filled_sized, filled_keeps}

-- what the rules say of a call in an area with the effects D of a block with the effects F: what the block's effects
-- are to the area, and which variable is the operand for a reference formal
pub record KeepsCalls (ls : List Layout) (ha : List Home) (k : ℕ) (l : Layout) (D F : ℕ → Type 0) (actual : ℕ → ℕ
    → Type 0) : Type 0 where
  pub different : AllDifferent (all_variables ls ha)
  pub lay : layout_of ls l.block ≡ Some l
  pub inner : (l.block == 0) ≡ false
  pub distinct : AllDifferent (l.variables ++ all_variables ls (drop k ha))
  pub around : (y : ℕ) → F y → (y < 2) ⊎ IsMember y (l.variables ++ all_variables ls (drop k ha))
  pub real : (y : ℕ) → IsMember y l.variables → 2 ≤ y
  pub outer : (y : ℕ) → F y → (IsMember y l.variables → ⊥) → D y
  pub passed : (i x : ℕ) → actual i x → D x × (2 ≤ x)
  pub once : (i j x : ℕ) → actual i x → actual j x → i ≡ j
  pub none : (i x : ℕ) → actual i x → F x → IsMember x l.variables
  pub sizes : (i y : ℕ) → slice_get l.variables i ≡ Some y → (c : ℕ) × (slice_get l.sizes i ≡ Some c)
  pub room : HaveRoom 0 l.formals (slice_get l.sizes)

module _ (ls : List Layout) {Area : Type 0} (H : Area → List Home) (E : Area → ℕ
    → Type 0) (K : Type 0) (a b : Area) (us : List Area) (fs : List Frame) (d : ℕ) (p : Plain)
    (h : Holding ls H E K (a ∷ us) fs d p)
    (k owner : ℕ) (l : Layout) (es : List Entry) (actual : ℕ → ℕ
    → Type 0) (homes : H b ≡ OfBlock l.block ∷ drop k (H a)) (keeps : KeepsCalls ls (H a) k l (E a) (E b) actual)
    (fit : fit_formals l.formals es ≡ true)
    (given : (i n : ℕ) → slice_get l.formals i ≡ Some (formal.Reference n) → (x : ℕ) × actual i x
    × ((q : Address) × (reference_target i (references 0 es) ≡ Some q) × (spot_of ls fs x ≡ Some q.spot))) where
  abbrev N : ℕ
  N = next_frame p

  abbrev pub store : Plain
  store = with_arguments plain N 0 es (plain.pushed p l.sizes)

  abbrev pub new_frame : Frame
  new_frame = record {
    owner = owner;
    number = N;
    home = OfBlock l.block;
    link = length (frames_up k fs);
    references = references 0 es;
  }

  -- outside the new frame nothing changes; nothing is away; what is known was known, or is of the new frame
  record Fair (s : Plain) : Type 0 where
    pub elsewhere : (q : Spot) → q.frame ≢ N → map.get s.map q ≡ map.get p.map q
    pub away : (q : Spot) → map.get s.map q ≢ Some Away
    pub own : s.own ≡ p.own ++ N ∷ []
    pub moved : s.moved ≡ p.moved

  fair_pushed : Fair (plain.pushed p l.sizes)
  fair_pushed = record {
    elsewhere = λ q o. pieces_other p.map N 0 l.sizes q o;
    away = pieces_not_away p.map N 0 l.sizes h.none_away;
    own = refl;
    moved = refl;
  }

  fair_written : (s : Plain) (i : ℕ) (cs : List Cell) → Fair s
      → Fair (plain.owned s (record { frame = N; variable = i }) cs)
  fair_written s i cs g = record {
    elsewhere = λ q o. get_other s.map (record { frame = N; variable = i }) (Own cs) q
        (λ e. o (ap (λ (z : Spot). z.frame) e)) ∙ g.elsewhere q o;
    away = λ q e. ⊎_elim
        (λ (j : q ≡ record { frame = N; variable = i }). own_away
        (sym (get_here s.map (record { frame = N; variable = i }) (Own cs))
        ∙ ap (λ y. map.get (with_own_piece s.map (record { frame = N; variable = i }) cs) y) (sym j) ∙ e))
        (λ (o : q ≢ record { frame = N; variable = i }). g.away q
        (sym (get_other s.map (record { frame = N; variable = i }) (Own cs) q o) ∙ e))
        (same_or q (record { frame = N; variable = i }));
    own = g.own;
    moved = g.moved;
  }

  fair : Fair store
  fair = filled_keeps N Fair fair_written 0 es (plain.pushed p l.sizes) fair_pushed

  sized : (i n : ℕ) → slice_get l.sizes i ≡ Some n
      → HasLength (map.get store.map (record { frame = N; variable = i })) n
  sized = filled_sized N (slice_get l.sizes) 0 l.formals es (plain.pushed p l.sizes) fit keeps.room (λ i n e. record {
    cells = replicate n cell.Undefined;
    piece = ap piece_of (ap (λ j. map.get (with_pieces p.map N 0 l.sizes) (record { frame = N; variable = j }))
        (sym (zero-add i)) ∙ pieces_at p.map N 0 l.sizes i n e);
    long = length-replicate n cell.Undefined;
  })

  below : (q : Spot) → q.frame < N → map.get store.map q ≡ map.get p.map q
  below q lt = fair.elsewhere q (λ e. omega (arith, lt, e))

  -- the caller's activation, and those below it
  all : AllAllowed ls H E K N (a ∷ us) fs p.map
  all = rebound ls H E K h.bound h.base (a ∷ us) fs p h.allowed h.own

  caller : Chain (H a) fs × Allowed ls K (E a) N fs p.map
  caller = head ls H E K N a us fs p.map all

  -- the input or the output is known, so the new frame is not the first
  started : K → 0 < N
  started c = ⊎_elim (λ g. (let b = known_below p.map input_spot g in omega (arith, b)))
      (λ g. (let b = known_below p.map output_spot g in omega (arith, b))) (h.console c).1

  new_one : Allowed ls K (E b) (suc N) (new_frame ∷ fs) store.map
  new_one = callee ls (H a) k l fs N owner
      (references 0 es) caller.0 keeps.different keeps.lay keeps.inner keeps.distinct K (E a)
      (E b) actual keeps.around keeps.real keeps.outer keeps.passed keeps.once keeps.none given
      p.map store.map below
      (λ i y e g. (let w = keeps.sizes i y e in let v = sized i w.0 w.1 in (w.0, w.1, (v.cells, v.piece, v.long))))
      started caller.1

  known_new : (q : Spot) → IsSome (map.get store.map q) → (q.frame ≡ N) ⊎ IsSome (map.get p.map q)
  known_new q g = go (q.frame == N) refl
    where
      go : (t : Bool) → (q.frame == N) ≡ t → (q.frame ≡ N) ⊎ IsSome (map.get p.map q)
      go true e = inl (Rattle.std.proofs.lemmas.Bool.eqb-true q.frame N e)
      go false e = inr (subst (λ z. IsSome z) (fair.elsewhere q (λ i. cc (sym e
          ∙ Rattle.sp_cell.proofs.FrameLaws.is_same q.frame N i))) g)

  long : length (p.own ++ N ∷ []) ≡ length p.own + 1
  long = length-append p.own (N ∷ [])

  low : N ≤ h.base + length (p.own ++ N ∷ [])
  low = omega (arith, next_low ls H E K (a ∷ us) fs d p h, long, h.deep)

  -- after the call
  pub holding_push : Holding ls H E K (b ∷ a ∷ us) (new_frame ∷ fs) (d + 1) store
  holding_push = record {
    bound = suc N;
    allowed = (
      subst (λ hs. Chain hs (new_frame ∷ fs)) (sym homes)
          (chain_new ls (H a) k l fs N owner
          (references 0 es) caller.0 keeps.different keeps.lay keeps.inner keeps.distinct),
      new_one,
      omega arith,
      all_keeps ls K p.map store.map H E N (a ∷ us) fs (keeps_same K N p.map store.map below) all,
    );
    base = h.base;
    own = (p.own, fair.own, subst (λ ns. N ≤ h.base + length ns) (sym fair.own) low, h.own);
    deep = omega (arith, h.deep, long, ap length fair.own);
    known = λ q g. ⊎_elim
        (λ (e : q.frame ≡ N). inl (subst (IsMember q.frame) (sym fair.own)
        (member_back q.frame p.own (N ∷ []) (inl e))))
        (λ o. ⊎_elim (λ i. inl (subst (IsMember q.frame) (sym fair.own) (member_front q.frame p.own (N ∷ []) i)))
        (λ (l : q.frame ≤ h.base). inr l) (h.known q o))
        (known_new q g);
    none_away = fair.away;
    moved = λ q i. (let w = h.moved q (subst (In q) fair.moved i) in subst IsHeld
        (sym (below q (let b = known_below p.map q (known_of_held (map.get p.map q) w) in omega (arith, b)))) w);
    old = λ q i j. (let w = h.moved q (subst (In q) fair.moved i) in let b = known_below p.map q
        (known_of_held (map.get p.map q) w) in
        ⊎_elim (λ g. h.old q (subst (In q) fair.moved i) g)
        (λ g. ⊎_elim (λ (e : q.frame ≡ N). absurd (omega (arith, b, e))) (λ z. absurd z) g)
        (member_either q.frame p.own (N ∷ []) (subst (IsMember q.frame) fair.own j)));
    console = λ c. (
      λ i. ⊎_elim (λ g. (h.console c).0 g)
          (λ g. ⊎_elim (λ (e : 0 ≡ N). absurd (let w = started c in omega (arith, w, e))) (λ z. absurd z) g)
          (member_either 0 p.own (N ∷ []) (subst (IsMember 0) fair.own i)),
      ⊎_elim (λ g. inl (subst (λ z. IsSome z) (sym (below input_spot (started c))) g))
          (λ g. inr (subst (λ z. IsSome z) (sym (below output_spot (started c))) g)) (h.console c).1,
    );
  }
