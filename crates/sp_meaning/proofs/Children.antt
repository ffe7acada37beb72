-- A fork hands over rights: each child gets those of its statement's variables, and keeps the invariant behind
-- disjointness with them.
use Rattle.std.proofs.Common.{◌≡◌, ◌≢◌, inl, inr, ℕ, zero, suc, ◌==◌, ◌&&◌, Bool, true, false, List, [], ◌∷◌, length}
use Rattle.std.proofs.Common.{Option, Some, None, refl, sym, ap, ◌∙◌, subst, arith, if◌then◌else◌, eqb-true, eq-eqb}
use Rattle.std.specs.Prelude.{slice_get, ℤ}
use Rattle.sp_base.proofs.Facts.{first_true, second_true}
use Rattle.sp_tree.specs.declared.checked.Role.{Role}
use Rattle.sp_tree.specs.declared.checked.Role.TheVariants as role
use Rattle.sp_tree.specs.Plain.{Program, Variable, Stmt}
use Rattle.sp_meaning.specs.Model.{Name, same_name}
use Rattle.sp_meaning.specs.LocalWork.{Loc, Cell, Input, Output, OfIndex, Frame, Item, is_block}
use Rattle.sp_meaning.specs.Actions.{Birth, push, with_index}
use Rattle.sp_tree.specs.Uses.{Use, Target, Seen, In_stmt}
use Rattle.sp_tree.specs.Sets.{IsUsed, Reach}
use Rattle.sp_meaning.specs.Rights.{frame_found, Linked, cell_of, reference_of, location_by, location_at, location_of}
use Rattle.sp_meaning.specs.Rights.{Touches, Right}
use Rattle.sp_meaning.specs.Rights.{Sound, Fit, Aimed, Used, IsClearOf, Born}
use Rattle.sp_meaning.proofs.Keys.{name_test}
use Rattle.sp_meaning.proofs.Rights.{OwnOrGiven, IsAbove, Fair_rights}
use Rattle.sp_meaning.proofs.SoundParts.{push_good}
use Rattle.sp_meaning.specs.Along.{Either}

module _ (p : Program) (W R : Loc → Type 0) where
  abbrev pub AimedAt : List Frame → Option Stmt → Loc → Type 0
  AimedAt fs None l = ⊥
  AimedAt fs (Some s) l = Aimed p fs s l

  abbrev pub UsedAt : List Frame → Option Stmt → Loc → Type 0
  UsedAt fs None l = ⊥
  UsedAt fs (Some s) l = Used p fs s l

  used_if_aimed : (fs : List Frame) (o : Option Stmt) (l : Loc) → AimedAt fs o l → UsedAt fs o l
  used_if_aimed fs None l h = h
  used_if_aimed fs (Some s) l h = (h.0, inl h.1, h.2)

  clear_with : (fs : List Frame) (s : Stmt) (ts : List Stmt) → IsClearOf p fs s ts → (j : ℕ) (l : Loc)
      → (Aimed p fs s l → UsedAt fs (slice_get ts j) l → ⊥) × (Used p fs s l → AimedAt fs (slice_get ts j) l → ⊥)
  clear_with fs s [] c j l = (λ h k. k, λ h k. k)
  clear_with fs s (t ∷ ts) c zero l = c.0 l
  clear_with fs s (t ∷ ts) c (suc j) l = clear_with fs s ts c.1 j l

  born_clear : (fs : List Frame) (ss : List Stmt) (bs : List Birth) → Born p W R fs ss bs → (i j : ℕ) (l : Loc) → i ≢ j
      → AimedAt fs (slice_get ss i) l → UsedAt fs (slice_get ss j) l → ⊥
  born_clear fs [] bs b i j l n h k = h
  born_clear fs (s ∷ ss) [] b i j l n h k = b
  born_clear fs (s ∷ ss) (c ∷ bs) b zero zero l n h k = n refl
  born_clear fs (s ∷ ss) (c ∷ bs) b zero (suc j) l n h k = (clear_with fs s ss b.2 j l).0 h k
  born_clear fs (s ∷ ss) (c ∷ bs) b (suc i) zero l n h k = (clear_with fs s ss b.2 i l).1 k h
  born_clear fs (s ∷ ss) (c ∷ bs) (_, _, _, others) (suc i) (suc j) l n h k =
      born_clear fs ss bs others i j l (λ e. n (ap suc e)) h k

  used_right : (fs : List Frame) (s : Stmt) (l : Loc) → ((l : Loc) → W l → R l) → Sound p W R fs (In_stmt s)
      → Used p fs s l → R l
  used_right fs s l reads so h = go h.1
    where
      go : IsUsed p (In_stmt s) h.0 → R l
      go (inl t) = reads l (so.allowed t.0 (Target h.0) t.1 h.0 l (refl, h.2))
      go (inr t) = so.allowed t.0 (Seen h.0) t.1 h.0 l (refl, h.2)

  -- the children's rights are the parent's
  born_right : (fs : List Frame) (ss : List Stmt) (bs : List Birth) → ((l : Loc) → W l → R l) → Born p W R fs ss bs
      → (i : ℕ) (l : Loc) → (AimedAt fs (slice_get ss i) l → W l) × (UsedAt fs (slice_get ss i) l → R l)
  born_right fs [] bs reads b i l = (λ h. absurd h, λ h. absurd h)
  born_right fs (s ∷ ss) [] reads b i l = absurd b
  born_right fs (s ∷ ss) (c ∷ bs) reads (_, sound, _, _) zero l = (
    λ (x, (path, is_reached), is_there). sound.allowed path (Target x) is_reached x l (refl, is_there),
    λ h. used_right fs s l reads sound h,
  )
  born_right fs (s ∷ ss) (c ∷ bs) reads (_, _, _, others) (suc i) l = born_right fs ss bs reads others i l

-- the index of a forall hides nothing
module _ (p : Program) (fs : List Frame) (q : Name) (ix : Option (ℕ × ℤ)) where
  index_stands : (x : ℕ) → location_of p (with_index q ix fs) x ≡ location_of p fs x
  index_stands x = go ix
    where
      new : ℕ × ℤ → Frame
      new y = record { owner = q; number = length fs; home = OfIndex y.0 y.1; link = length fs; references = [] }

      found : (b : ℕ) (y : ℕ × ℤ) → frame_found (is_block b) (length (new y ∷ fs)) (new y ∷ fs)
          ≡ frame_found (is_block b) (length fs) fs
      found b y = ap (λ c. if c then frame_found (is_block b) (length fs) fs else frame_found (is_block b)
          (length (new y ∷ fs)) fs)
          (eq-eqb (length (new y ∷ fs)) (length (new y ∷ fs)) refl)

      by_role : (i : Variable) (r : Role) (y : ℕ × ℤ) → location_by (new y ∷ fs) x i r ≡ location_by fs x i r
      by_role i role.Console y = refl
      by_role i role.Local y = ap (cell_of x) (found i.block y)
      by_role i role.Value y = ap (cell_of x) (found i.block y)
      by_role i role.Reference y = ap (reference_of x) (found i.block y)
      by_role i role.Index y = refl
      by_role i role.Answer y = ap (cell_of x) (found i.block y)

      by_variable : (v : Option Variable) (y : ℕ × ℤ) → location_at (new y ∷ fs) x v ≡ location_at fs x v
      by_variable None y = refl
      by_variable (Some i) y = by_role i i.role y

      go : (iy : Option (ℕ × ℤ)) → location_of p (with_index q iy fs) x ≡ location_of p fs x
      go None = refl
      go (Some y) = by_variable (slice_get p.variables x) y

  index_touches : (u : Use) (x : ℕ) (l : Loc) → Touches p (with_index q ix fs) u x l → Touches p fs u x l
  index_touches (Target y) x l t = (t.0, sym (index_stands x) ∙ t.1)
  index_touches (Seen y) x l t = (t.0, sym (index_stands x) ∙ t.1)
  index_touches _ _ _ t = t

  pub index_linked : Linked fs → Linked (with_index q ix fs)
  index_linked l = go ix
    where
      go : (iy : Option (ℕ × ℤ)) → Linked (with_index q iy fs)
      go None = l
      go (Some y) = (refl, refl, tt, l)

-- with the rights of its statement, a child's statement is sound
module _ (p : Program) (W R V T : Loc → Type 0) (fs : List Frame) (q : Name) (ix : Option (ℕ × ℤ)) (s : Stmt)
    (so : Sound p W R fs (In_stmt s)) (aims : (l : Loc) → Aimed p fs s l → V l)
    (uses : (l : Loc) → Used p fs s l → T l) where
  abbrev inner : List Frame
  inner = with_index q ix fs

  may : (bs : List ℕ) (u : Use) → Reach p (In_stmt s) bs u → (x : ℕ) (l : Loc) → Touches p fs u x l → Right p V T u l
  may bs (Target y) r x l t = aims l (y, (bs, r), ap (location_of p fs) t.0 ∙ t.1)
  may bs (Seen y) r x l t = uses l (y, inr (bs, r), ap (location_of p fs) t.0 ∙ t.1)
  may _ _ _ _ _ _ = tt

  pub child_sound : Sound p V T inner (In_stmt s)
  child_sound = record {
    allowed = λ bs u r x l t. may bs u r x l (index_touches p fs q ix u x l t);
    apart = λ bs cs u v r k x y l n a b. so.apart bs cs u v r k x y l n (index_touches p fs q ix u x l a)
        (index_touches p fs q ix v y l b);
    kept = so.kept;
  }

  pub child_fit : Linked fs → (todo : List Item) → todo ≡ push s [] → Fit p V T inner inner todo
  child_fit l todo e = subst (λ z. Fit p V T inner inner z) (sym e)
      (push_good p V T inner inner s [] child_sound
      (record { linked = index_linked p fs q ix l; ready = tt; ends = refl }))

-- the rights after fork k of q
module _ (p : Program) (W R : Name → Loc → Type 0) (q : Name) (k : ℕ) (fs : List Frame) (ss : List Stmt) where
  abbrev pub writes_after : Name → Loc → Type 0
  writes_after [] l = W [] l
  writes_after ((m, i) ∷ r) l =
      Either (same_name q r && (m == k)) (AimedAt p (OwnOrGiven W q) (OwnOrGiven R q) fs (slice_get ss i) l)
      (W ((m, i) ∷ r) l)

  abbrev pub reads_after : Name → Loc → Type 0
  reads_after [] l = R [] l
  reads_after ((m, i) ∷ r) l =
      Either (same_name q r && (m == k)) (UsedAt p (OwnOrGiven W q) (OwnOrGiven R q) fs (slice_get ss i) l)
      (R ((m, i) ∷ r) l)

  -- names in question
  pub it_is : (r : Name) (m : ℕ) → (same_name q r && (m == k)) ≡ true → (q ≡ r) × (m ≡ k)
  it_is r m e = (
    (name_test q r).0 (first_true (same_name q r) (m == k) e),
    eqb-true m k (second_true (same_name q r) (m == k) e),
  )

  module _ (fair : Fair_rights W R) (new : (i : ℕ) (l : Loc) → R ((k, i) ∷ q) l → ⊥) where
    no_old : (r : Name) (m i : ℕ) (l : Loc) → (q ≡ r) × (m ≡ k) → R ((m, i) ∷ r) l → ⊥
    no_old r m i l e h = new i l (subst (λ (z : ℕ × Name). R ((z.0, i) ∷ z.1) l) (λ j. (e.1 j, sym e.0 j)) h)

    pub grow_writes : (r : Name) (l : Loc) → W r l → writes_after r l
    grow_writes [] l h = h
    grow_writes ((m, i) ∷ r) l h = go (same_name q r && (m == k)) refl
      where
        go : (b : Bool) → (same_name q r && (m == k)) ≡ b
            → Either b (AimedAt p (OwnOrGiven W q) (OwnOrGiven R q) fs (slice_get ss i) l) (W ((m, i) ∷ r) l)
        go true e = absurd (no_old r m i l (it_is r m e) (fair.reads ((m, i) ∷ r) l h))
        go false e = h

    pub grow_reads : (r : Name) (l : Loc) → R r l → reads_after r l
    grow_reads [] l h = h
    grow_reads ((m, i) ∷ r) l h = go (same_name q r && (m == k)) refl
      where
        go : (b : Bool) → (same_name q r && (m == k)) ≡ b
            → Either b (UsedAt p (OwnOrGiven W q) (OwnOrGiven R q) fs (slice_get ss i) l) (R ((m, i) ∷ r) l)
        go true e = absurd (no_old r m i l (it_is r m e) h)
        go false e = h

    pub all_writes : (r : Name) (l : Loc) → OwnOrGiven W r l → OwnOrGiven writes_after r l
    all_writes r l (inl h) = inl h
    all_writes r l (inr h) = inr (grow_writes r l h)

    pub all_reads : (r : Name) (l : Loc) → OwnOrGiven R r l → OwnOrGiven reads_after r l
    all_reads r l (inl h) = inl h
    all_reads r l (inr h) = inr (grow_reads r l h)

    module _ (bs : List Birth) (born : Born p (OwnOrGiven W q) (OwnOrGiven R q) fs ss bs) where
      reads_all : (l : Loc) → OwnOrGiven W q l → OwnOrGiven R q l
      reads_all l (inl h) = inl h
      reads_all l (inr h) = inr (fair.reads q l h)

      above_all : (r : Name) (m i : ℕ) (l : Loc) → OwnOrGiven R r l → IsAbove ((m, i) ∷ r) l
      above_all r m i (Cell o n x) (inl e) = omega (arith, ap length e)
      above_all r m i (Cell o n x) (inr h) = omega (arith, fair.above r (Cell o n x) h)
      above_all r m i Input h = tt
      above_all r m i Output h = tt

      right : (i : ℕ) (l : Loc) → (AimedAt p (OwnOrGiven W q) (OwnOrGiven R q) fs (slice_get ss i) l → OwnOrGiven W q l)
          × (UsedAt p (OwnOrGiven W q) (OwnOrGiven R q) fs (slice_get ss i) l → OwnOrGiven R q l)
      right i l = born_right p (OwnOrGiven W q) (OwnOrGiven R q) fs ss bs reads_all born i l

      reads' : (r : Name) (l : Loc) → writes_after r l → reads_after r l
      reads' [] l h = fair.reads [] l h
      reads' ((m, i) ∷ r) l h = go (same_name q r && (m == k)) h
        where
          go : (b : Bool) → Either b (AimedAt p (OwnOrGiven W q) (OwnOrGiven R q) fs (slice_get ss i) l)
              (W ((m, i) ∷ r) l)
              → Either b (UsedAt p (OwnOrGiven W q) (OwnOrGiven R q) fs (slice_get ss i) l) (R ((m, i) ∷ r) l)
          go true h = used_if_aimed p (OwnOrGiven W q) (OwnOrGiven R q) fs (slice_get ss i) l h
          go false h = fair.reads ((m, i) ∷ r) l h

      less_write' : (r : Name) (m i : ℕ) (l : Loc) → writes_after ((m, i) ∷ r) l → OwnOrGiven writes_after r l
      less_write' r m i l h = go (same_name q r && (m == k)) refl h
        where
          go : (b : Bool) → (same_name q r && (m == k)) ≡ b
              → Either b (AimedAt p (OwnOrGiven W q) (OwnOrGiven R q) fs (slice_get ss i) l) (W ((m, i) ∷ r) l)
              → OwnOrGiven writes_after r l
          go true e h = all_writes r l (subst (λ z. OwnOrGiven W z l) (it_is r m e).0 ((right i l).0 h))
          go false e h = all_writes r l (fair.less_write r m i l h)

      less_read' : (r : Name) (m i : ℕ) (l : Loc) → reads_after ((m, i) ∷ r) l → OwnOrGiven reads_after r l
      less_read' r m i l h = go (same_name q r && (m == k)) refl h
        where
          go : (b : Bool) → (same_name q r && (m == k)) ≡ b
              → Either b (UsedAt p (OwnOrGiven W q) (OwnOrGiven R q) fs (slice_get ss i) l) (R ((m, i) ∷ r) l)
              → OwnOrGiven reads_after r l
          go true e h = all_reads r l (subst (λ z. OwnOrGiven R z l) (it_is r m e).0 ((right i l).1 h))
          go false e h = all_reads r l (fair.less_read r m i l h)

      above' : (r : Name) (l : Loc) → reads_after r l → IsAbove r l
      above' [] l h = fair.above [] l h
      above' ((m, i) ∷ r) l h = go (same_name q r && (m == k)) refl h
        where
          go : (b : Bool) → (same_name q r && (m == k)) ≡ b
              → Either b (UsedAt p (OwnOrGiven W q) (OwnOrGiven R q) fs (slice_get ss i) l) (R ((m, i) ∷ r) l)
              → IsAbove ((m, i) ∷ r) l
          go true e h = above_all r m i l (subst (λ z. OwnOrGiven R z l) (it_is r m e).0 ((right i l).1 h))
          go false e h = fair.above ((m, i) ∷ r) l h

      apart' : (r : Name) (m i j : ℕ) (l : Loc) → i ≢ j → writes_after ((m, i) ∷ r) l → reads_after ((m, j) ∷ r) l → ⊥
      apart' r m i j l n h g = go (same_name q r && (m == k)) h g
        where
          go : (b : Bool) → Either b (AimedAt p (OwnOrGiven W q) (OwnOrGiven R q) fs (slice_get ss i) l)
              (W ((m, i) ∷ r) l)
              → Either b (UsedAt p (OwnOrGiven W q) (OwnOrGiven R q) fs (slice_get ss j) l) (R ((m, j) ∷ r) l) → ⊥
          go true h g = born_clear p (OwnOrGiven W q) (OwnOrGiven R q) fs ss bs born i j l n h g
          go false h g = fair.apart r m i j l n h g

      pub fair_after : Fair_rights writes_after reads_after
      fair_after = record {
        reads = reads';
        above = above';
        less_write = less_write';
        less_read = less_read';
        apart = apart';
      }
