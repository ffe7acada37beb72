-- What a fork hands over, child by child, and the children.
use Rattle.std.proofs.Common.{◌≡◌, ℕ, zero, suc, ◌+◌, ◌-◌, ◌≤◌, ◌<◌, List, [], ◌∷◌, ◌++◌, length, get_or, Option, Some}
use Rattle.std.proofs.Common.{None, IsSome, refl, sym, ap, ◌∙◌, subst, arith, append_assoc, inl, inr}
use Rattle.std.specs.Prelude.{ℤ, pos, ◌+ℤ◌}
use Rattle.std.proofs.lemmas.Bool.{cases_lt}
use Rattle.std.proofs.lemmas.List.{append-nil, get_or_append_left, get_or_default}
use Rattle.std.proofs.Math.Seq.{get_or-append_seam}
use Rattle.std.specs.FinMap as map
use Rattle.sp_cell.specs.declared.spot.Spot.{Spot}
use Rattle.sp_cell.specs.declared.spot.Handing.{Handing}
use Rattle.sp_cell.specs.Map.{Map, Plain}
use Rattle.sp_cell.specs.Fork.{children_of, child_of}
use Rattle.sp_cell.specs.Frame.{HasNextFrame}
use Rattle.sp_cell.proofs.FrameLaws.{known_below}
use Rattle.sp_cell.proofs.Laws.{known_of_held, known_of_piece}
use Rattle.sp_cell.proofs.Plan.{each_shared, each_moved, index_at}
use Rattle.sp_code.specs.declared.code.ChildTable.{ChildTable}
use Rattle.sp_code.specs.declared.code.ForkTable.{ForkTable}
use Rattle.sp_code.specs.declared.code.Layout.{Layout}
use Rattle.sp_code.specs.declared.code.Parts.{Parts}
use Rattle.sp_code.specs.Machine.{At}
use Rattle.sp_code.specs.Memory.{Frame as PlainFrame, CodeRun}
use Rattle.sp_code.specs.PlainStore.{plain}
use Rattle.sp_code.specs.Sound.{CanSplit, run_of}
use Rattle.sp_code.specs.System.{handing_of, index_by, plan_from, child_or, with_index_frame}
use Rattle.sp_code.specs.Tables.{child_at, child_by, first_index, index_of}
use Rattle.sp_store.specs.Layout.{FramesBelow}
use Rattle.sp_machine.specs.declared.state.State.{State}
use Rattle.sp_machine.specs.Children.{index_with_value, handed_to, with_frame, IsBornSo, BornOf, AreBornSo, IsNewborn}
use Rattle.sp_machine.specs.Children.{AreNewborn}

-- ---- the plan

indexed_is : (v : ℤ) (k : ℕ) (o : Option ℕ) → index_with_value (v +ℤ pos k) o ≡ index_by v k o
indexed_is v k None = refl
indexed_is v k (Some x) = refl

handed_is : (ls : List Layout) (fs : List PlainFrame) (v : ℤ) (k : ℕ) (c : ChildTable)
    → handed_to ls fs (v +ℤ pos k) c ≡ handing_of ls fs v k c
handed_is ls fs v k c = ap (λ (i : Option (ℕ × ℤ)). record (handing_of ls fs v k c) { index = i })
    (indexed_is v k c.index)

plan_first : (ls : List Layout) (fs : List PlainFrame) (t : ForkTable) (v : ℤ) (k n : ℕ) → 0 < n
    → plan_from ls fs t v k n ≡ handing_of ls fs v k (child_or (child_at t k)) ∷ plan_from ls fs t v (k + 1) (n - 1)
plan_first ls fs t v k zero h = absurd (omega (arith, h))
plan_first ls fs t v k (suc n) h =
    let one : suc k ≡ k + 1 = omega arith in
    let less : n ≡ suc n - 1 = omega arith in
    ap (λ j. handing_of ls fs v k (child_or (child_at t k)) ∷ plan_from ls fs t v j n) one
    ∙ ap (λ m. handing_of ls fs v k (child_or (child_at t k)) ∷ plan_from ls fs t v (k + 1) m) less

pub plan_more : (ls : List Layout) (fs : List PlainFrame) (t : ForkTable) (v : ℤ) (k count : ℕ) (found : List Handing)
    (h : Handing) → k < count → h ≡ handed_to ls fs (v +ℤ pos k) (child_or (child_at t k))
    → found ++ plan_from ls fs t v k (count - k) ≡ (found ++ h ∷ []) ++ plan_from ls fs t v (k + 1) (count - (k + 1))
plan_more ls fs t v k count found h less e =
    let more : 0 < count - k = omega (arith, less) in
    let rest : count - k - 1 ≡ count - (k + 1) = omega (arith, less) in
    ap (λ (hs : List Handing). found ++ hs) (plan_first ls fs t v k (count - k) more)
    ∙ ap (λ m. found ++ handing_of ls fs v k (child_or (child_at t k)) ∷ plan_from ls fs t v (k + 1) m) rest
    ∙ ap (λ (x : Handing). found ++ x ∷ plan_from ls fs t v (k + 1) (count - (k + 1)))
    (sym (e ∙ handed_is ls fs v k (child_or (child_at t k))))
    ∙ sym (append_assoc found (h ∷ []) (plan_from ls fs t v (k + 1) (count - (k + 1))))

pub plan_end : (ls : List Layout) (fs : List PlainFrame) (t : ForkTable) (v : ℤ) (k count : ℕ) (found : List Handing)
    → count ≤ k → found ++ plan_from ls fs t v k (count - k) ≡ found
plan_end ls fs t v k count found h =
    let none : count - k ≡ 0 = omega (arith, h) in
    ap (λ n. found ++ plan_from ls fs t v k n) none ∙ append-nil found

-- the children of a forall are handed the same, except for the value of their index
pub alike : (ls : List Layout) (fs : List PlainFrame) (t : ForkTable) (x : ℕ) (h : Handing) (w : ℤ)
    → index_of t ≡ Some x → h ≡ handed_to ls fs w (child_or (child_at t 0)) → (k : ℕ) (v : ℤ)
    → record h { index = Some (0, v) } ≡ handed_to ls fs v (child_or (child_at t k))
alike ls fs t x h w e is k v = ap (λ (y : Handing). record y { index = Some (0, v) }) is ∙ of_children t.children e
  where
    of_children : (cs : List ChildTable) → first_index cs ≡ Some x
        → record (handed_to ls fs w (child_or (child_by cs (first_index cs) 0))) { index = Some (0, v) }
        ≡ handed_to ls fs v (child_or (child_by cs (first_index cs) k))
    of_children [] e = absurd (cc e)
    of_children (c ∷ cs) e = rw e refl

pub length_plan : (ls : List Layout) (fs : List PlainFrame) (t : ForkTable) (v : ℤ) (k n : ℕ)
    → length (plan_from ls fs t v k n) ≡ n
length_plan ls fs t v k zero = refl
length_plan ls fs t v k (suc n) = ap suc (length_plan ls fs t v (suc k) n)

pub plan_at : (ls : List Layout) (fs : List PlainFrame) (t : ForkTable) (v : ℤ) (k n i : ℕ) (d : Handing) → i < n
    → get_or (plan_from ls fs t v k n) i d ≡ handing_of ls fs v (k + i) (child_or (child_at t (k + i)))
plan_at ls fs t v k zero i d h = absurd (omega (arith, h))
plan_at ls fs t v k (suc n) zero d h = let same : k ≡ k + 0 = omega arith in
    ap (λ j. handing_of ls fs v j (child_or (child_at t j))) same
plan_at ls fs t v k (suc n) (suc i) d h =
    let same : suc k + i ≡ k + suc i = omega arith in
    plan_at ls fs t v (suc k) n i d (omega (arith, h)) ∙ ap (λ j. handing_of ls fs v j (child_or (child_at t j))) same

some_index : (v : ℤ) (k : ℕ) (o : Option ℕ) → IsSome o → IsSome (index_by v k o)
some_index v k None h = h
some_index v k (Some x) h = refl

-- the frames of what a child with an index is handed have numbers below the greatest one
below_at : (p : Plain) (hs : List Handing) (i : ℕ) (h : Handing) → CanSplit p hs → i < length hs → h ≡ get_or hs i h
    → IsSome h.index → FramesBelow h.moved 18446744073709551615 × FramesBelow h.shared 18446744073709551615
below_at p hs i h can inside is index =
    let number : HasNextFrame p = can.number (index_at hs i h inside is index) in
    let below : (q : Spot) → IsSome (map.get p.map q)
    → q.frame < 18446744073709551615 = λ q k. let less = known_below p.map q k in omega (arith, number, less) in (
      each_moved (λ q. q.frame < 18446744073709551615) hs i h inside is
          (λ q j. below q (known_of_held _ (can.held q j))),
      each_shared (λ q. q.frame < 18446744073709551615) hs i h inside is
          (λ q j. below q (known_of_piece _ (can.pieces q j))),
    )

pub below_plan : (p : Plain) (ls : List Layout) (fs : List PlainFrame) (t : ForkTable) (v : ℤ) (n i : ℕ) (h : Handing)
    → CanSplit p (plan_from ls fs t v 0 n) → i < length (plan_from ls fs t v 0 n)
    → h ≡ get_or (plan_from ls fs t v 0 n) i h
    → IsSome (child_or (child_at t i)).index → FramesBelow h.moved 18446744073709551615
    × FramesBelow h.shared 18446744073709551615
below_plan p ls fs t v n i h can inside is index =
    let few : i < n = subst (λ m. i < m) (length_plan ls fs t v 0 n) inside in
    let same : 0 + i ≡ i = omega arith in
    let which : h ≡ handing_of ls fs v i (child_or (child_at t i)) = is ∙ plan_at ls fs t v 0 n i h few
    ∙ ap (λ j. handing_of ls fs v j (child_or (child_at t j))) same in
    below_at p (plan_from ls fs t v 0 n) i h can inside is
    (subst (λ (x : Handing). IsSome x.index) (sym which) (some_index v i (child_or (child_at t i)).index index))

-- ---- the children one after another

pub born_none : (cs : List State) (hs : List Handing) (t : ForkTable) (number : ℕ) (parent : State)
    → AreBornSo cs hs t number parent 0
born_none cs hs t number parent k d h less = absurd (omega (arith, less))

born_next : (cs : List State) (x : State) (k n : ℕ) (d : State) → length cs ≡ n → k ≡ n → get_or (cs ++ x ∷ []) k d ≡ x
born_next cs x k n d l e = ap (λ j. get_or (cs ++ x ∷ []) j d) (e ∙ sym l) ∙ get_or-append_seam cs x [] d

pub born_more : (cs : List State) (x : State) (hs : List Handing) (t : ForkTable) (number : ℕ) (parent : State) (n : ℕ)
    (h : Handing) → length cs ≡ n → h ≡ get_or hs n h → n < length hs → AreBornSo cs hs t number parent n
    → BornOf x h (child_or (child_at t n)) (number + n) parent
    → AreBornSo (cs ++ x ∷ []) hs t number parent (n + 1)
born_more cs x hs t number parent n h l e inside old new k d g less = elim (cases_lt k n) [
  | inl w ↦ subst (λ (y : State). BornOf y (get_or hs k g) (child_or (child_at t k)) (number + k) parent)
      (sym (get_or_append_left cs (x ∷ []) d k (omega (arith, w, l)))) (old k d g w)
  | inr v ↦
      let w : k ≡ n = omega (arith, v, less) in
      let here : get_or (cs ++ x ∷ []) k d ≡ x = born_next cs x k n d l w in
      let which : h ≡ get_or hs k g = e ∙ get_or_default hs n h g inside ∙ ap (λ j. get_or hs j g) (sym w) in
      subst (λ (y : State). BornOf y (get_or hs k g) (child_or (child_at t k)) (number + k) parent) (sym here)
      (subst (λ (z : Handing). BornOf x z (child_or (child_at t k)) (number + k) parent) which
      (subst (λ j. BornOf x h (child_or (child_at t j)) (number + j) parent) (sym w) new))
]

-- the child that was made for place n, with what the table says for it
pub born_at : (x : State) (h : Handing) (t : ForkTable) (number k n j entry : ℕ) (index : Option ℕ)
    (fs : List PlainFrame) (parent : State) → IsBornSo x (number + k) entry fs parent
    → fs ≡ with_frame (number + k) h index parent.frames
    → entry ≡ (child_or (child_at t j)).entry → index ≡ (child_or (child_at t j)).index → j ≡ k → k ≡ n
    → BornOf x h (child_or (child_at t n)) (number + n) parent
born_at x h t number k n j entry index fs parent b f e i jk kn =
    subst (λ m. BornOf x h (child_or (child_at t m)) (number + m) parent) kn
    (subst (λ m. IsBornSo x (number + k) (child_or (child_at t m)).entry
    (with_frame (number + k) h (child_or (child_at t m)).index parent.frames) parent) jk
    (subst (λ (o : Option ℕ). IsBornSo x (number + k) (child_or (child_at t j)).entry
    (with_frame (number + k) h o parent.frames) parent) i
    (subst (λ y. IsBornSo x (number + k) y (with_frame (number + k) h index parent.frames) parent) e
    (subst (λ (gs : List PlainFrame). IsBornSo x (number + k) entry gs parent) f b))))

pub born_pushed : (cs ds : List State) (x : State) (hs : List Handing) (t : ForkTable) (number : ℕ) (parent : State)
    (n : ℕ) (h : Handing) → ds ≡ cs ++ x ∷ [] → length cs ≡ n → h ≡ get_or hs n h → n < length hs
    → AreBornSo cs hs t number parent n
    → BornOf x h (child_or (child_at t n)) (number + n) parent → AreBornSo ds hs t number parent (n + 1)
born_pushed cs ds x hs t number parent n h p l e inside old new =
    subst (λ (xs : List State). AreBornSo xs hs t number parent (n + 1)) (sym p)
    (born_more cs x hs t number parent n h l e inside old new)

-- ---- the children with their stores

frames_same : (g : CodeRun) (q : ℕ) (h : Handing) (o : Option ℕ) (fs : List PlainFrame)
    → with_frame q h o fs ≡ with_index_frame plain g q h o fs
frames_same g q h None fs = refl
frames_same g q h (Some x) fs = refl

store_at : (m : Map) (hs : List Handing) (k : ℕ) (s : Plain) (h : Handing) → k < length hs
    → get_or (children_of m hs) k s ≡ child_of m (get_or hs k h)
store_at m [] k s h less = absurd (omega (arith, less))
store_at m (g ∷ hs) zero s h less = refl
store_at m (g ∷ hs) (suc k) s h less = store_at m hs k s h (omega (arith, less))

module _ (code : Parts) (p : State) (t : ForkTable) (number count : ℕ) where
  abbrev plan : List Handing
  plan = plan_from code.layouts p.frames t p.first 0 count

  newborn_is : (k : ℕ) (x : State) (s : Plain) (h : Handing) → k < count
      → BornOf x h (child_or (child_at t k)) (number + k) p → h ≡ get_or plan k h → s ≡ child_of p.store.map h
      → IsNewborn code p t number k (record x { store = s })
  newborn_is k x s h less b is from =
      let c : ChildTable = child_or (child_at t k) in
      let same : 0 + k ≡ k = omega arith in
      let which : h ≡ handing_of code.layouts p.frames p.first k (child_or (child_at t k)) = is
      ∙ plan_at code.layouts p.frames t p.first 0 count k h less
      ∙ ap (λ j. handing_of code.layouts p.frames p.first j (child_or (child_at t j))) same in (
        (λ lim. b.0 s
            ∙ ap (λ (fs : List PlainFrame). At (child_or (child_at t k)).entry []
            (record {
              process = number + k;
              frames = fs;
              depth = p.depth + 1;
              ticks = 0;
              since = 0;
              cells = 0;
              store = s;
            })) (frames_same (run_of code p.input.value lim) (number + k) h
            (child_or (child_at t k)).index p.frames)
            ∙ ap (λ (z : Plain). At (child_or (child_at t k)).entry []
            (record {
              process = number + k;
              frames = with_index_frame plain (run_of code p.input.value lim) (number + k) h
                  (child_or (child_at t k)).index p.frames;
              depth = p.depth + 1;
              ticks = 0;
              since = 0;
              cells = 0;
              store = z;
            })) from
            ∙ ap (λ (z : Handing). At (child_or (child_at t k)).entry []
            (record {
              process = number + k;
              frames = with_index_frame plain (run_of code p.input.value lim) (number + k) z
                  (child_or (child_at t k)).index p.frames;
              depth = p.depth + 1;
              ticks = 0;
              since = 0;
              cells = 0;
              store = child_of p.store.map z;
            })) which),
        b.1,
      )

  pub all_newborn : (cs ds : List State) (ss : List Plain) → ss ≡ children_of p.store.map plan → length cs ≡ length plan
      → AreBornSo cs plan t number p (length plan) → length ds ≡ length cs
      → ((k : ℕ) (d : State) (s : Plain) → k < length cs
      → get_or ds k d ≡ record (get_or cs k d) { store = get_or ss k s }) → AreNewborn code p t number count ds
  all_newborn cs ds ss stores many born same each =
      let size : length plan ≡ count = length_plan code.layouts p.frames t p.first 0 count in (
        same ∙ many ∙ size,
        λ k d less.
            let inside : k < length plan = omega (arith, less, size) in
            let there : k < length cs = omega (arith, inside, many) in
            let h : Handing = get_or plan k (record { moved = []; shared = []; index = None }) in
            let s : Plain = get_or ss k (child_of p.store.map h) in
            let from : s ≡ child_of p.store.map h =
            ap (λ (xs : List Plain). get_or xs k (child_of p.store.map h)) stores
            ∙ store_at p.store.map plan k (child_of p.store.map h)
            (record { moved = []; shared = []; index = None }) inside in
            subst (IsNewborn code p t number k) (sym (each k d (child_of p.store.map h) there))
            (newborn_is k (get_or cs k d) s h less (born k d (record { moved = []; shared = []; index = None }) inside)
            (get_or_default plan k (record { moved = []; shared = []; index = None }) h inside) from),
      )

pub length_children : (m : Map) (hs : List Handing) → length (children_of m hs) ≡ length hs
length_children m [] = refl
length_children m (h ∷ hs) = ap suc (length_children m hs)

-- the children of a parent whose frames were made shared
pub split_newborn : (code : Parts) (p : State) (t : ForkTable) (number count : ℕ) (fs : List PlainFrame)
    (hs : List Handing) (cs ds os : List State) (ss : List Plain) → fs ≡ p.frames
    → hs ≡ plan_from code.layouts p.frames t p.first 0 count
    → ss ≡ children_of p.store.map hs → length cs ≡ length hs
    → AreBornSo cs hs t number (record p { frames = fs }) (length hs) → length ds ≡ length cs
    → ((k : ℕ) (d : State) (s : Plain) → k < length cs
    → get_or ds k d ≡ record (get_or cs k d) { store = get_or ss k s }) → os ≡ ds
    → AreNewborn code p t number count os
split_newborn code p t number count fs hs cs ds os ss f e stores many born same each out =
    subst (AreNewborn code p t number count) (sym out)
    (all_newborn code p t number count cs ds ss (stores ∙ ap (children_of p.store.map) e) (many ∙ ap length e)
    (subst (λ (xs : List Handing). AreBornSo cs xs t number p (length xs)) e
    (subst (λ (gs : List PlainFrame). AreBornSo cs hs t number (record p { frames = gs }) (length hs)) f born))
    same each)
