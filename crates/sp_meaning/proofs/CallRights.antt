-- A call keeps the invariant behind disjointness: what is sound for the call in the caller's frames makes the body
-- sound in the new one.
use Rattle.std.proofs.Common.{◌≡◌, ◌≢◌, ◌⊎◌, inl, inr, ⊎_elim, ℕ, zero, suc, ◌<◌, ◌≤◌, ◌==◌, Bool, true, false, List}
use Rattle.std.proofs.Common.{[], ◌∷◌, length, Option, Some, None, refl, sym, ap, ◌∙◌, subst, arith, if◌then◌else◌}
use Rattle.std.proofs.Common.{eqb-true, eq-eqb}
use Rattle.std.specs.Prelude.{slice_get}
use Rattle.std.proofs.lemmas.Option.{same_Some}
use Rattle.sp_tree.specs.declared.checked.Role.{Role}
use Rattle.sp_tree.specs.declared.checked.Role.TheVariants as role
use Rattle.sp_tree.specs.Plain.{Program, Variable, Block, Entire, ByValue, ByReference, Actuals, Nothing, Pass}
use Rattle.sp_meaning.specs.Model.{Name}
use Rattle.sp_meaning.specs.LocalWork.{Loc, Cell, Input, Output, Address, Home, OfBlock, Frame, is_block}
use Rattle.sp_meaning.specs.LocalWork.{reference_target}
use Rattle.sp_meaning.specs.Eval.{ArgumentValue, ValueOf, PlaceOf}
use Rattle.sp_meaning.specs.Actions.{references}
use Rattle.sp_tree.specs.Uses.{Use, Target, Seen, CallOf, ParallelOf, ForallOf, Stop, In_actuals, In_call, In_stmt}
use Rattle.sp_tree.specs.Sets.{IsBelow, IsFree, IsUseOfCallers, Reach, IsUsed, Implicit}
use Rattle.sp_tree.specs.Interference.{refs, IsMember, AllDifferent, IsFreeOfInterference}
use Rattle.sp_meaning.specs.Rights.{frame_found, IsOlder, AreOlder, Linked, cell_of, spot_of, reference_of, console}
use Rattle.sp_meaning.specs.Rights.{location_by}
use Rattle.sp_meaning.specs.Rights.{location_at, location_of, Touches, AreArgumentsOf, Right, Sound}
use Rattle.sp_meaning.proofs.Static.{lower, through}

older_more : (n m : ℕ) (l : Loc) → n ≤ m → IsOlder n l → IsOlder m l
older_more n m (Cell q k x) h o = omega (arith, o, h)
older_more n m Input h o = tt
older_more n m Output h o = tt

all_older_more : (n m : ℕ) (rs : List (ℕ × Address)) → n ≤ m → AreOlder n rs → AreOlder m rs
all_older_more n m [] h o = tt
all_older_more n m (r ∷ rs) h o = (older_more n m r.1.spot h o.0, all_older_more n m rs h o.1)

references_older : (fits : Home → Bool) (n : ℕ) (fs : List Frame) (f : Frame) → Linked fs
    → frame_found fits n fs ≡ Some f
    → AreOlder (length fs) f.references
references_older fits n [] f l e = absurd (cc e)
references_older fits n (g ∷ fs) f (_, _, are_older, below) e =
    go (λ m x. all_older_more (length fs) (suc (length fs)) f.references (omega arith)
    (references_older fits m fs f below x)) (length (g ∷ fs) == n) e
  where
    inner : ((m : ℕ) → frame_found fits m fs ≡ Some f → AreOlder (suc (length fs)) f.references) → (b : Bool)
        → (if b then Some g else frame_found fits g.link fs) ≡ Some f → AreOlder (suc (length fs)) f.references
    inner ih true e = subst (λ (z : Frame). AreOlder (suc (length fs)) z.references) (same_Some g f e)
        (all_older_more (length fs) (suc (length fs)) g.references (omega arith) are_older)
    inner ih false e = ih g.link e

    go : ((m : ℕ) → frame_found fits m fs ≡ Some f → AreOlder (suc (length fs)) f.references) → (b : Bool)
        → (if b then (if fits g.home then Some g else frame_found fits g.link fs) else frame_found fits n fs) ≡ Some f
        → AreOlder (suc (length fs)) f.references
    go ih true e = inner ih (fits g.home) e
    go ih false e = ih n e

referred_older : (n x : ℕ) (rs : List (ℕ × Address)) (a : Address) → AreOlder n rs → reference_target x rs ≡ Some a
    → IsOlder n a.spot
referred_older n x [] a o e = absurd (cc e)
referred_older n x (r ∷ rs) a o e = go (λ d. referred_older n x rs a o.1 d) (x == r.0) e
  where
    go : (reference_target x rs ≡ Some a → IsOlder n a.spot) → (b : Bool)
        → (if b then Some r.1 else reference_target x rs) ≡ Some a
        → IsOlder n a.spot
    go ih true e = subst (λ (z : Address). IsOlder n z.spot) (same_Some r.1 a e) o.0
    go ih false e = ih e

-- what a variable stands for is older than a new frame
stands_older : (p : Program) (fs : List Frame) (x : ℕ) (l : Loc) → Linked fs → location_of p fs x ≡ Some l
    → IsOlder (length fs) l
stands_older p fs x l k e = by_variable (slice_get p.variables x) e
  where
    by_cell : (b : ℕ) → (z : Option Frame) → frame_found (is_block b) (length fs) fs ≡ z → cell_of x z ≡ Some l
        → IsOlder (length fs) l
    by_cell b None s e = absurd (cc e)
    by_cell b (Some f) s e = subst (λ z. IsOlder (length fs) z) (same_Some (Cell f.owner f.number x) l e)
        (lower (is_block b) (length fs) fs f k s)

    by_spot : (f : Frame) → AreOlder (length fs) f.references → (z : Option Address)
        → reference_target x f.references ≡ z
        → spot_of z ≡ Some l → IsOlder (length fs) l
    by_spot f o None r e = absurd (cc e)
    by_spot f o (Some a) r e = subst (λ z. IsOlder (length fs) z) (same_Some a.spot l e)
        (referred_older (length fs) x f.references a o r)

    by_reference : (b : ℕ) → (z : Option Frame) → frame_found (is_block b) (length fs) fs ≡ z
        → reference_of x z ≡ Some l
        → IsOlder (length fs) l
    by_reference b None s e = absurd (cc e)
    by_reference b (Some f) s e = by_spot f (references_older (is_block b) (length fs) fs f k s)
        (reference_target x f.references) refl e

    by_console : (x : ℕ) → console x ≡ l → IsOlder (length fs) l
    by_console zero e = subst (λ z. IsOlder (length fs) z) e tt
    by_console (suc n) e = subst (λ z. IsOlder (length fs) z) e tt

    by_role : (i : Variable) (r : Role) → location_by fs x i r ≡ Some l → IsOlder (length fs) l
    by_role i role.Console e = by_console x (same_Some (console x) l e)
    by_role i role.Local e = by_cell i.block _ refl e
    by_role i role.Value e = by_cell i.block _ refl e
    by_role i role.Reference e = by_reference i.block _ refl e
    by_role i role.Index e = absurd (cc e)
    by_role i role.Answer e = by_cell i.block _ refl e

    by_variable : (v : Option Variable) → location_at fs x v ≡ Some l → IsOlder (length fs) l
    by_variable None e = absurd (cc e)
    by_variable (Some i) e = by_role i i.role e

module _ (p : Program) (fs : List Frame) where
  -- a variable parameter stands for the entire variable of its argument
  abbrev IsArgumentPlace : Actuals → Address → Type 0
  IsArgumentPlace args a = (v : ℕ) × IsMember v (refs args) × (location_of p fs v ≡ Some a.spot)

  comes : (args : Actuals) (zs : List ℕ) (gs : List ArgumentValue) → AreArgumentsOf p fs args gs → (x : ℕ) (a : Address)
      → reference_target x (references zs gs) ≡ Some a → IsArgumentPlace args a
  comes args [] gs g x a e = absurd (cc e)
  comes Nothing (z ∷ zs) [] g x a e = absurd (cc e)
  comes Nothing (z ∷ zs) (h ∷ gs) g x a e = absurd g
  comes (Pass (ByValue i) rest) (z ∷ zs) [] g x a e = absurd g
  comes (Pass (ByValue i) rest) (z ∷ zs) (ValueOf v ∷ gs) g x a e = comes rest zs gs g x a e
  comes (Pass (ByValue i) rest) (z ∷ zs) (PlaceOf b ∷ gs) g x a e = absurd g
  comes (Pass (ByReference (Entire v ss)) rest) (z ∷ zs) [] g x a e = absurd g
  comes (Pass (ByReference (Entire v ss)) rest) (z ∷ zs) (ValueOf w ∷ gs) g x a e = absurd g
  comes (Pass (ByReference (Entire v ss)) rest) (z ∷ zs) (PlaceOf b ∷ gs) g x a e =
      go (λ d. comes rest zs gs g.1 x a d) (x == z) e
    where
      go : (reference_target x (references zs gs) ≡ Some a → IsArgumentPlace rest a) → (c : Bool)
          → (if c then Some b else reference_target x (references zs gs)) ≡ Some a → (w : ℕ)
          × IsMember w (v ∷ refs rest)
          × (location_of p fs w ≡ Some a.spot)
      go ih true d = (v, inl refl, g.0 ∙ ap (λ (y : Address). Some y.spot) (same_Some b a d))
      go ih false d = let r = ih d in (r.0, inr r.1, r.2)

  -- two of them for two variables, since the actual variable parameters of a call are different (rule I4)
  abbrev Two : Actuals → Address → Address → Type 0
  Two args a b = (v w : ℕ) × IsMember v (refs args) × IsMember w (refs args) × (v ≢ w)
      × (location_of p fs v ≡ Some a.spot)
      × (location_of p fs w ≡ Some b.spot)

  two : (args : Actuals) (zs : List ℕ) (gs : List ArgumentValue) → AreArgumentsOf p fs args gs
      → AllDifferent (refs args)
      → (x y : ℕ) (a b : Address) → x ≢ y → reference_target x (references zs gs) ≡ Some a
      → reference_target y (references zs gs) ≡ Some b → Two args a b
  two args [] gs g k x y a b n e d = absurd (cc e)
  two Nothing (z ∷ zs) [] g k x y a b n e d = absurd (cc e)
  two Nothing (z ∷ zs) (h ∷ gs) g k x y a b n e d = absurd g
  two (Pass (ByValue i) rest) (z ∷ zs) [] g k x y a b n e d = absurd g
  two (Pass (ByValue i) rest) (z ∷ zs) (ValueOf v ∷ gs) g k x y a b n e d = two rest zs gs g k x y a b n e d
  two (Pass (ByValue i) rest) (z ∷ zs) (PlaceOf c ∷ gs) g k x y a b n e d = absurd g
  two (Pass (ByReference (Entire v ss)) rest) (z ∷ zs) [] g k x y a b n e d = absurd g
  two (Pass (ByReference (Entire v ss)) rest) (z ∷ zs) (ValueOf w ∷ gs) g k x y a b n e d = absurd g
  two (Pass (ByReference (Entire v ss)) rest) (z ∷ zs) (PlaceOf c ∷ gs) g k x y a b n e d =
      go (λ e1 d1. two rest zs gs g.1 k.1 x y a b n e1 d1) (x == z) refl (y == z) refl e d
    where
      Goal : Type 0
      Goal = (w u : ℕ) × IsMember w (v ∷ refs rest) × IsMember u (v ∷ refs rest) × (w ≢ u)
          × (location_of p fs w ≡ Some a.spot) × (location_of p fs u ≡ Some b.spot)

      go : (reference_target x (references zs gs) ≡ Some a → reference_target y (references zs gs) ≡ Some b
          → Two rest a b)
          → (s : Bool) → x == z ≡ s → (t : Bool) → y == z ≡ t
          → (if s then Some c else reference_target x (references zs gs)) ≡ Some a
          → (if t then Some c else reference_target y (references zs gs)) ≡ Some b → Goal
      go ih true es true et e d = absurd (n (eqb-true x z es ∙ sym (eqb-true y z et)))
      go ih true es false et e d =
          let r = comes rest zs gs g.1 y b d in (
            v,
            r.0,
            inl refl,
            inr r.1,
            λ (h : v ≡ r.0). k.0 (subst (λ m. IsMember m (refs rest)) (sym h) r.1),
            g.0
                ∙ ap (λ (y : Address). Some y.spot) (same_Some c a e),
            r.2,
          )
      go ih false es true et e d =
          let r = comes rest zs gs g.1 x a e in (
            r.0,
            v,
            inr r.1,
            inl refl,
            λ (h : r.0 ≡ v). k.0 (subst (λ m. IsMember m (refs rest)) h r.1),
            r.2,
            g.0
                ∙ ap (λ (y : Address). Some y.spot) (same_Some c b d),
          )
      go ih false es false et e d =
          let (one, other, is_one, is_other, differs, at_one, at_other) = ih e d in
          (one, other, inr is_one, inr is_other, differs, at_one, at_other)

  given_older : Linked fs → (args : Actuals) (zs : List ℕ) (gs : List ArgumentValue) → AreArgumentsOf p fs args gs
      → AreOlder (length fs) (references zs gs)
  given_older l args [] gs g = tt
  given_older l Nothing (z ∷ zs) [] g = tt
  given_older l Nothing (z ∷ zs) (h ∷ gs) g = absurd g
  given_older l (Pass (ByValue i) rest) (z ∷ zs) [] g = absurd g
  given_older l (Pass (ByValue i) rest) (z ∷ zs) (ValueOf v ∷ gs) g = given_older l rest zs gs g
  given_older l (Pass (ByValue i) rest) (z ∷ zs) (PlaceOf c ∷ gs) g = absurd g
  given_older l (Pass (ByReference (Entire v ss)) rest) (z ∷ zs) [] g = absurd g
  given_older l (Pass (ByReference (Entire v ss)) rest) (z ∷ zs) (ValueOf w ∷ gs) g = absurd g
  given_older l (Pass (ByReference (Entire v ss)) rest) (z ∷ zs) (PlaceOf c ∷ gs) g =
      (stands_older p fs v c.spot l g.0, given_older l rest zs gs g.1)

-- the entire variable of a variable parameter is a target of the call
member_in : (args : Actuals) (v : ℕ) → IsMember v (refs args) → In_actuals args (Target v)
member_in Nothing v m = absurd m
member_in (Pass (ByValue e) rest) v m = inr (member_in rest v m)
member_in (Pass (ByReference (Entire x ss)) rest) v (inl e) = inl (inl (ap Target e))
member_in (Pass (ByReference (Entire x ss)) rest) v (inr m) = inr (member_in rest v m)

-- what touches a variable

touched : (p : Program) (fs : List Frame) (u : Use) (x : ℕ) (l : Loc) → Touches p fs u x l → location_of p fs x ≡ Some l
touched p fs (Target y) x l t = t.1
touched p fs (Seen y) x l t = t.1
touched _ _ _ _ _ t = absurd t

touches_in : (p : Program) (fs gs : List Frame) (u : Use) (x : ℕ) (l : Loc) → Touches p fs u x l
    → location_of p gs x ≡ Some l → Touches p gs u x l
touches_in p fs gs (Target y) x l t e = (t.0, e)
touches_in p fs gs (Seen y) x l t e = (t.0, e)
touches_in _ _ _ _ _ _ t _ = absurd t

passes_of : (p : Program) (fs : List Frame) (u : Use) (x : ℕ) (l : Loc) (b : ℕ) → Touches p fs u x l → IsFree p b x
    → IsUseOfCallers p b u
passes_of p fs (Target y) x l b t f = subst (λ z. IsFree p b z) (sym t.0) f
passes_of p fs (Seen y) x l b t f = subst (λ z. IsFree p b z) (sym t.0) f
passes_of _ _ _ _ _ _ t _ = absurd t

used_of : (p : Program) (fs : List Frame) (u : Use) (x : ℕ) (l : Loc) (Here : Use → Type 0) (bs : List ℕ)
    → Touches p fs u x l → Reach p Here bs u → IsUsed p Here x
used_of p fs (Target y) x l Here bs t r = inl (bs, subst (λ z. Reach p Here bs (Target z)) t.0 r)
used_of p fs (Seen y) x l Here bs t r = inr (bs, subst (λ z. Reach p Here bs (Seen z)) t.0 r)
used_of p fs (CallOf g args) x l Here bs t r = absurd t
used_of p fs (ParallelOf ss) x l Here bs t r = absurd t
used_of p fs (ForallOf y s) x l Here bs t r = absurd t
used_of p fs Stop x l Here bs t r = absurd t

-- low: what stands in the process's frames from this number on is its own to write
module _ (p : Program) (q : Name) (W R : Loc → Type 0) (low : ℕ) (own : (n x : ℕ) → low ≤ n → W (Cell q n x))
    (reads : (l : Loc) → W l → R l) (free : IsFreeOfInterference p) where
  below_le : (n c b : ℕ) → IsBelow p n c b → b ≤ c
  below_le zero c b h = omega (arith, h)
  below_le (suc n) c b (k, is_there, parent, is_parent, above) =
      omega (arith, free.parents c k parent is_there is_parent, below_le n parent b above)

  free_if : (b x : ℕ) (i : Variable) → slice_get p.variables x ≡ Some i → i.block < b → IsFree p b x
  free_if b x i e lt j d n h =
      let same : i ≡ j = same_Some i j (sym e ∙ d) in
      omega (arith, lt, below_le n j.block b h, ap (λ (z : Variable). z.block) same)

  module _ (fs : List Frame) (b : ℕ) (k : Block) (args : Actuals) (gs : List ArgumentValue) (c : ℕ)
      (outer : Frame) where
    -- the new frame
    abbrev pub fresh : Frame
    fresh = record {
      owner = q;
      number = length fs;
      home = OfBlock b;
      link = suc outer.number;
      references = references k.formals gs;
    }

    module _ (linked : Linked fs) (is_block_b : slice_get p.blocks b ≡ Some k) (gave : AreArgumentsOf p fs args gs)
        (before : c < b) (seen : frame_found (is_block c) (length fs) fs ≡ Some outer) where
      pub fresh_linked : Linked (fresh ∷ fs)
      fresh_linked = (
        refl,
        λ d f e. omega (arith, (through c d (length fs) outer f fs linked seen e).1, before),
        given_older p fs linked args k.formals gs gave,
        linked,
      )

      -- what a variable stands for in the body: a cell of the new frame, the entire variable of an argument, or what it
      -- stood for before
      data BodyLocation (x : ℕ) (l : Loc) : Type 0 where
        NewCell : (e : Cell q (length fs) x ≡ l) → BodyLocation x l
        Refers : (a : Address) (r : reference_target x (references k.formals gs) ≡ Some a) (e : a.spot ≡ l)
            → BodyLocation x l
        Outer : (f : IsFree p b x) (e : location_of p fs x ≡ Some l) → BodyLocation x l

      top_find : (d : ℕ) → frame_found (is_block d) (length (fresh ∷ fs)) (fresh ∷ fs)
          ≡ (if d == b then Some fresh else frame_found (is_block d) (suc outer.number) fs)
      top_find d = ap (λ z. if z then (if d == b then Some fresh else frame_found (is_block d) (suc outer.number)
          fs) else
          frame_found (is_block d) (length (fresh ∷ fs)) fs) (eq-eqb (length (fresh ∷ fs)) (length (fresh ∷ fs)) refl)

      -- a variable of the block, or one that is seen from outside
      by_frame : (T : Option Frame → Option Loc) → T None ≡ None → (d : ℕ) (l : Loc)
          → T (frame_found (is_block d) (length (fresh ∷ fs)) (fresh ∷ fs)) ≡ Some l → (T (Some fresh) ≡ Some l)
          ⊎ ((d < b) × (T (frame_found (is_block d) (length fs) fs) ≡ Some l))
      by_frame T none d l e = go (d == b) (ap T (sym (top_find d)) ∙ e)
        where
          outside : (z : Option Frame) → frame_found (is_block d) (suc outer.number) fs ≡ z → T z ≡ Some l → (d < b)
              × (T (frame_found (is_block d) (length fs) fs) ≡ Some l)
          outside None s e = let x : None ≡ Some l = sym none ∙ e in absurd (cc x)
          outside (Some f) s e = let r = through c d (length fs) outer f fs linked seen s in
              (omega (arith, r.1, before), ap T r.0 ∙ e)

          go : (z : Bool) → T (if z then Some fresh else frame_found (is_block d) (suc outer.number) fs) ≡ Some l
              → (T (Some fresh) ≡ Some l) ⊎ ((d < b) × (T (frame_found (is_block d) (length fs) fs) ≡ Some l))
          go true e = inl e
          go false e = inr (outside (frame_found (is_block d) (suc outer.number) fs) refl e)

      where_is : (x : ℕ) (l : Loc) → location_of p (fresh ∷ fs) x ≡ Some l → BodyLocation x l
      where_is x l e = by_variable (slice_get p.variables x) refl e
        where
          by_spot : (z : Option Address) → reference_target x (references k.formals gs) ≡ z → spot_of z ≡ Some l
              → BodyLocation x l
          by_spot None r e = absurd (cc e)
          by_spot (Some a) r e = Refers a r (same_Some a.spot l e)

          by_cell : (i : Variable) → slice_get p.variables x ≡ Some i
              → location_of p fs x ≡ cell_of x (frame_found (is_block i.block) (length fs) fs)
              → cell_of x (frame_found (is_block i.block) (length (fresh ∷ fs)) (fresh ∷ fs)) ≡ Some l
              → BodyLocation x l
          by_cell i v s e = ⊎_elim
              (λ (h : cell_of x (Some fresh) ≡ Some l). NewCell (same_Some (Cell q (length fs) x) l h))
              (λ (h : (i.block < b) × (cell_of x (frame_found (is_block i.block) (length fs) fs) ≡ Some l)). Outer
              (free_if b x i v h.0) (s ∙ h.1)) (by_frame (cell_of x) refl i.block l e)

          by_role : (i : Variable) → slice_get p.variables x ≡ Some i → (r : Role) → i.role ≡ r
              → location_by (fresh ∷ fs) x i r ≡ Some l → BodyLocation x l
          by_role i v role.Console d e = Outer (free_if b x i v (omega (arith, (free.consoles x i v d).0, before)))
              (ap (location_at fs x) v ∙ ap (location_by fs x i) d ∙ e)
          by_role i v role.Local d e = by_cell i v (ap (location_at fs x) v ∙ ap (location_by fs x i) d) e
          by_role i v role.Value d e = by_cell i v (ap (location_at fs x) v ∙ ap (location_by fs x i) d) e
          by_role i v role.Reference d e = ⊎_elim
              (λ (h : reference_of x (Some fresh) ≡ Some l). by_spot (reference_target x (references k.formals gs))
              refl h)
              (λ (h : (i.block < b) × (reference_of x (frame_found (is_block i.block) (length fs) fs) ≡ Some l)). Outer
              (free_if b x i v h.0) (ap (location_at fs x) v ∙ ap (location_by fs x i) d ∙ h.1))
              (by_frame (reference_of x) refl i.block l e)
          by_role i v role.Index d e = absurd (cc e)
          by_role i v role.Answer d e = by_cell i v (ap (location_at fs x) v ∙ ap (location_by fs x i) d) e

          by_variable : (v : Option Variable) → slice_get p.variables x ≡ v → location_at (fresh ∷ fs) x v ≡ Some l
              → BodyLocation x l
          by_variable None v e = absurd (cc e)
          by_variable (Some i) v e = by_role i v i.role refl e

      own_is_new : (x : ℕ) (l : Loc) → Cell q (length fs) x ≡ l → IsOlder (length fs) l → ⊥
      own_is_new x l e o = let h : IsOlder (length fs) (Cell q (length fs) x) =
          subst (λ z. IsOlder (length fs) z) (sym e) o in absurd (omega (arith, h))

      right_of_own : (u : Use) (l : Loc) → W l → Right p W R u l
      right_of_own (Target x) l w = w
      right_of_own (Seen x) l w = reads l w
      right_of_own _ _ _ = tt

      module _ (high : low ≤ length fs) (s : Sound p W R fs (In_call b args)) where
        target : (v : ℕ) → IsMember v (refs args) → In_call b args (Target v)
        target v m = inr (member_in args v m)

        outer_use : (bs : List ℕ) (u : Use) (x : ℕ) (l : Loc) → Reach p (In_stmt k.body) bs u
            → Touches p (fresh ∷ fs) u x l → IsFree p b x → Reach p (In_call b args) (b ∷ bs) u
        outer_use bs u x l r t f = record {
          actuals = args;
          is_called = inl refl;
          block = k;
          is_block = is_block_b;
          is_of_callers = passes_of p (fresh ∷ fs) u x l b t f;
          rest = r;
        }

        may : (bs : List ℕ) (u : Use) (x : ℕ) (l : Loc) → Reach p (In_stmt k.body) bs u → Touches p (fresh ∷ fs) u x l
            → BodyLocation x l → Right p W R u l
        may bs u x l r t (NewCell e) = right_of_own u l (subst W e (own (length fs) x high))
        may bs u x l r t (Refers a d e) = let h = comes p fs args k.formals gs gave x a d in
            right_of_own u l (subst W e (s.allowed [] (Target h.0) (target h.0 h.1) h.0 a.spot (refl, h.2)))
        may bs u x l r t (Outer f e) = s.allowed (b ∷ bs) u (outer_use bs u x l r t f) x l
            (touches_in p (fresh ∷ fs) fs u x l t e)

        older : (x : ℕ) (l : Loc) → location_of p fs x ≡ Some l → IsOlder (length fs) l
        older x l e = stands_older p fs x l linked e

        referred_is_older : (x : ℕ) (a : Address) (l : Loc) → reference_target x (references k.formals gs) ≡ Some a
            → a.spot ≡ l
            → IsOlder (length fs) l
        referred_is_older x a l d e = let h = comes p fs args k.formals gs gave x a d in older h.0 l (h.2 ∙ ap Some e)

        implicit : (bs : List ℕ) (u : Use) (x : ℕ) (l : Loc) → Reach p (In_stmt k.body) bs u
            → Touches p (fresh ∷ fs) u x l → IsFree p b x → Implicit p b x
        implicit bs u x l r t f = (k, is_block_b, f, used_of p (fresh ∷ fs) u x l (In_stmt k.body) bs t r)

        -- by rule I5
        crossed : (bs : List ℕ) (u : Use) (x y : ℕ) (l : Loc) → Reach p (In_stmt k.body) bs u
            → Touches p (fresh ∷ fs) u x l → IsFree p b x → location_of p fs x ≡ Some l → (a : Address)
            → reference_target y (references k.formals gs) ≡ Some a → a.spot ≡ l → ⊥
        crossed bs u x y l r t f e a d g =
            let h = comes p fs args k.formals gs gave y a d in
            let other : h.0 ≢ x = λ i. (s.kept (CallOf b args) (inl refl)).1 h.0 h.1
            (subst (λ z. Implicit p b z) (sym i) (implicit bs u x l r t f)) in
            s.apart [] (b ∷ bs) (Target h.0) u (target h.0 h.1) (outer_use bs u x l r t f) h.0 x l other
            (refl, h.2 ∙ ap Some g) (touches_in p (fresh ∷ fs) fs u x l t e)

        differ : (bs cs : List ℕ) (u v : Use) → Reach p (In_stmt k.body) bs u → Reach p (In_stmt k.body) cs v
            → (x y : ℕ) (l : Loc) → x ≢ y → Touches p (fresh ∷ fs) u x l → Touches p (fresh ∷ fs) v y l
            → BodyLocation x l
            → BodyLocation y l → ⊥
        differ bs cs u v r t x y l n a b (NewCell e) (NewCell d) =
            let h : Cell q (length fs) x ≡ Cell q (length fs) y = e
            ∙ sym d in n (cc h)
        differ bs cs u v r t x y l n a b (NewCell e) (Refers f d g) = own_is_new x l e (referred_is_older y f l d g)
        differ bs cs u v r t x y l n a b (NewCell e) (Outer f d) = own_is_new x l e (older y l d)
        differ bs cs u v r t x y l n a b (Refers f d g) (NewCell e) = own_is_new y l e (referred_is_older x f l d g)
        differ bs cs u v r t x y l n a b1 (Refers f d g) (Refers h e i) =
            let (one, other, is_one, is_other, differs, at_one, at_other) =
            two p fs args k.formals gs gave (s.kept (CallOf b args) (inl refl)).0 x y f h n d e in
            s.apart [] [] (Target one) (Target other) (target one is_one) (target other is_other) one other l differs
            (refl, at_one ∙ ap Some g) (refl, at_other ∙ ap Some i)
        differ bs cs u v r t x y l n a b (Refers f d g) (Outer h e) = crossed cs v y x l t b h e f d g
        differ bs cs u v r t x y l n a b (Outer h e) (NewCell d) = own_is_new y l d (older x l e)
        differ bs cs u v r t x y l n a b (Outer h e) (Refers f d g) = crossed bs u x y l r a h e f d g
        differ bs cs u v r t x y l n a b1 (Outer f e) (Outer g d) =
            s.apart (b ∷ bs) (b ∷ cs) u v (outer_use bs u x l r a f) (outer_use cs v y l t b1 g) x y l n
            (touches_in p (fresh ∷ fs) fs u x l a e) (touches_in p (fresh ∷ fs) fs v y l b1 d)

        -- the body is sound in its frame
        pub fresh_sound : Sound p W R (fresh ∷ fs) (In_stmt k.body)
        fresh_sound = record {
          allowed = λ bs u r x l t. may bs u x l r t (where_is x l (touched p (fresh ∷ fs) u x l t));
          apart = λ bs cs u v r t x y l n a z. differ bs cs u v r t x y l n a z
              (where_is x l (touched p (fresh ∷ fs) u x l a)) (where_is y l (touched p (fresh ∷ fs) v y l z));
          kept = λ u h. free.blocks b k is_block_b u h;
        }
