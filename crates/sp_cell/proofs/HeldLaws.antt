-- A fork and a join keep the partition of all variables. The laws of `sp_store` promise it in their contracts; it is
-- led from one variable to one child, and from there to all stores.
use Rattle.std.specs.Prelude.{◌≡◌, ◌≢◌, ◌⊎◌, ℕ, ◌+◌, if◌then◌else◌, Bool, List, [], ◌∷◌, ◌++◌, Option, None, Some}
use Rattle.std.specs.Prelude.{IsSome}
use Rattle.std.proofs.Common.{sym, subst, ap, refl, ◌∙◌, arith, inl, inr}
use Rattle.std.proofs.lemmas.Bool.{cases_eq}
use mathlib.Core.Bool.{false≢true}
use Rattle.std.specs.List.{AllByRecursion}
use Rattle.std.specs.FinMap as map
use Rattle.sp_cell.specs.declared.spot.Spot.{Spot}
use Rattle.sp_cell.specs.declared.spot.Handing.{Handing}
use Rattle.sp_cell.specs.Map.{Map, Content, Own, Shared, Output, Away, Plain, IsPiece, cells_of, cells_at}
use Rattle.sp_cell.specs.Fork.{child_map, children_of, map_after_fork, map_after_join, moved_of, shared_of, index_frame}
use Rattle.sp_cell.proofs.FrameLaws.{is_same, is_other}
use Rattle.sp_cell.specs.Holders.{View, IsNotHeld, ContentsAgree, HasUniqueSpots, AgreeOnAll, IsPartition, child_means}
use Rattle.sp_cell.specs.Holders.{child_views}
use Rattle.sp_cell.specs.Holders.{IsFresh, KeepsPartition, RejoinsPartition}
use Rattle.sp_cell.proofs.Laws.{known_of_held, known_of_piece}
use Rattle.sp_cell.proofs.Partition.{parent_moved, parent_shared, parent_rest, child_moved, child_shared, child_rest}
use Rattle.sp_cell.proofs.Partition.{below_above}
use Rattle.sp_cell.proofs.Plan.{in_or, not_both, in_front, in_back, distinct_back, get_taken_in, get_taken_out}
use Rattle.sp_cell.proofs.Plan.{not_in_front}
use Rattle.sp_cell.specs.Spots.{In, NotIn, IsDistinct, AllHeld, AllPieces, AllAway}

-- ---- one variable

known_or : (o : Option Content) → (o ≡ None) ⊎ IsSome o
known_or None = inl refl
known_or (Some h) = inr refl

not_held_of_none : (o : Option Content) → o ≡ None → IsNotHeld o
not_held_of_none o e = rw e tt

-- to share what is owned agrees with whatever the owner agreed with
share_agree : (o b : Option Content) → IsPiece o → ContentsAgree o b → ContentsAgree (Some (Shared (cells_of o))) b
share_agree None b p a = absurd p
share_agree (Some (Own cs)) b p (inl x) = absurd x
share_agree (Some (Own cs)) b p (inr (inl y)) = inr (inl y)
share_agree (Some (Own cs)) b p (inr (inr z)) = absurd z
share_agree (Some (Shared cs)) b p a = a
share_agree (Some (Output bs)) b p a = absurd p
share_agree (Some Away) b p a = absurd p

frame_of : (x y : Spot) → x ≡ y → x.frame ≡ y.frame
frame_of x y e = ap (λ (s : Spot). s.frame) e

pub same_spot : (x y : Spot) → x.frame ≡ y.frame → x.variable ≡ y.variable → x ≡ y
same_spot x y e v = λ i. record { frame = e i; variable = v i }

-- ---- one child

abbrev parent_view : Map → (ℕ → ℕ) → View
parent_view m f = record { map = m; means = f }

abbrev child_view : Map → (ℕ → ℕ) → Handing → ℕ → View
child_view m f h v = record { map = child_map m h; means = child_means f h v }

index_means : (f : ℕ → ℕ) (h : Handing) (v n : ℕ) → n ≡ index_frame h → child_means f h v n ≡ v
index_means f h v n e = ap (λ (b : Bool). if b then v else f n) (is_same n (index_frame h) e)

other_means : (f : ℕ → ℕ) (h : Handing) (v n : ℕ) → n ≢ index_frame h → child_means f h v n ≡ f n
other_means f h v n d = ap (λ (b : Bool). if b then v else f n) (is_other n (index_frame h) d)

moved_means : (f : ℕ → ℕ) (h : Handing) (v : ℕ) (p : Spot) → In p h.moved → child_means f h v p.frame ≡ f p.frame
moved_means f h v p i = let b = below_above h.moved p i in other_means f h v p.frame (λ e. omega (arith, b, e))

shared_means : (f : ℕ → ℕ) (h : Handing) (v : ℕ) (p : Spot) → In p h.shared → child_means f h v p.frame ≡ f p.frame
shared_means f h v p i = let b = below_above h.shared p i in other_means f h v p.frame (λ e. omega (arith, b, e))

at_frame : (n k : ℕ) (p : Spot) → n ≡ k → ◌≡◌ {A = Spot} (record { frame = n; variable = p.variable })
    (record { frame = k; variable = p.variable })
at_frame n k p e = λ i. record { frame = e i; variable = p.variable }

-- where a spot of a child comes from: it was moved, it is shared, it is of the index's frame, or it is unknown
abbrev ChildSpotSource : Map → Handing → Spot → Type 0
ChildSpotSource m h p = (In p h.moved × (map.get (child_map m h) p ≡ map.get m p))
    ⊎ ((In p h.shared × (map.get (child_map m h) p ≡ Some (Shared (cells_at m p))))
    ⊎ ((p.frame ≡ index_frame h) ⊎ (map.get (child_map m h) p ≡ None)))

comes : (m : Map) (h : Handing) → AllHeld m h.moved → (p : Spot) → ChildSpotSource m h p
comes m h k p = elim (in_or p h.moved) [
  | inl i ↦ inl (i, child_moved m h p i (known_of_held _ (k p i)))
  | inr n ↦ elim (in_or p h.shared) [
    | inl j ↦ inr (inl (j, child_shared m h p j n))
    | inr o ↦ elim (cases_eq p.frame (index_frame h))
        [ inl e ↦ inr (inr (inl e)) | inr d ↦ inr (inr (inr (child_rest m h p n o d))) ]
  ]
]

-- a child agrees with each other store as its parent did
child_other : (m : Map) (f : ℕ → ℕ) (h : Handing) (v : ℕ) → AllHeld m h.moved → AllPieces m h.shared → (u : View)
    → IsFresh v u → AgreeOnAll (parent_view m f) u → AgreeOnAll (child_view m f h v) u
child_other m f h v k c u fresh agree p q e = by_case (comes m h k p)
  where
    by_case : ChildSpotSource m h p → ContentsAgree (map.get (child_map m h) p) (map.get u.map q)
    by_case (inl a) = rw a.1 (agree p q (at_frame _ _ p (sym (moved_means f h v p a.0)) ∙ e))
    by_case (inr (inl b)) = rw b.1 (share_agree (map.get m p) (map.get u.map q) (c p b.0)
        (agree p q (at_frame _ _ p (sym (shared_means f h v p b.0)) ∙ e)))
    by_case (inr (inr (inl i))) = elim (known_or (map.get u.map q)) [
      | inl n ↦ inr (inl (not_held_of_none _ n))
      | inr s ↦ absurd (fresh q s (sym (frame_of _ _ e) ∙ index_means f h v p.frame i))
    ]
    by_case (inr (inr (inr n))) = inl (not_held_of_none _ n)

-- and knows each variable once
child_named : (m : Map) (f : ℕ → ℕ) (h : Handing) (v : ℕ) → AllHeld m h.moved → AllPieces m h.shared
    → IsFresh v (parent_view m f) → HasUniqueSpots (parent_view m f) → HasUniqueSpots (child_view m f h v)
child_named m f h v k c fresh named p q kp kq e = by_case (comes m h k p) (comes m h k q)
  where
    unknown : (o : Option Content) → o ≡ None → IsSome o → ⊥
    unknown o n s = false≢true (rw n at s)

    both : IsSome (map.get m p) → IsSome (map.get m q) → child_means f h v p.frame ≡ f p.frame
        → child_means f h v q.frame ≡ f q.frame → p ≡ q
    both sp sq x y = named p q sp sq (at_frame _ _ p (sym x) ∙ e ∙ at_frame _ _ q y)

    never : (r s : Spot) → IsSome (map.get m r) → child_means f h v r.frame ≡ f r.frame → s.frame ≡ index_frame h
        → child_means f h v r.frame ≡ child_means f h v s.frame → ⊥
    never r s sr x i same = fresh r sr (sym x ∙ same ∙ index_means f h v s.frame i)

    by_case : ChildSpotSource m h p → ChildSpotSource m h q → p ≡ q
    by_case (inl a) (inl b) = both (known_of_held _ (k p a.0)) (known_of_held _ (k q b.0)) (moved_means f h v p a.0)
        (moved_means f h v q b.0)
    by_case (inl a) (inr (inl b)) = both (known_of_held _ (k p a.0)) (known_of_piece _ (c q b.0))
        (moved_means f h v p a.0) (shared_means f h v q b.0)
    by_case (inl a) (inr (inr (inl i))) = absurd
        (never p q (known_of_held _ (k p a.0)) (moved_means f h v p a.0) i (frame_of _ _ e))
    by_case (inl a) (inr (inr (inr n))) = absurd (unknown _ n kq)
    by_case (inr (inl a)) (inl b) = both (known_of_piece _ (c p a.0)) (known_of_held _ (k q b.0))
        (shared_means f h v p a.0) (moved_means f h v q b.0)
    by_case (inr (inl a)) (inr (inl b)) = both (known_of_piece _ (c p a.0)) (known_of_piece _ (c q b.0))
        (shared_means f h v p a.0) (shared_means f h v q b.0)
    by_case (inr (inl a)) (inr (inr (inl i))) =
        absurd (never p q (known_of_piece _ (c p a.0)) (shared_means f h v p a.0) i (frame_of _ _ e))
    by_case (inr (inl a)) (inr (inr (inr n))) = absurd (unknown _ n kq)
    by_case (inr (inr (inl i))) (inl b) = absurd
        (never q p (known_of_held _ (k q b.0)) (moved_means f h v q b.0) i (sym (frame_of _ _ e)))
    by_case (inr (inr (inl i))) (inr (inl b)) =
        absurd (never q p (known_of_piece _ (c q b.0)) (shared_means f h v q b.0) i (sym (frame_of _ _ e)))
    by_case (inr (inr (inl i))) (inr (inr (inl j))) = same_spot p q (i ∙ sym j) (ap (λ (s : Spot). s.variable) e)
    by_case (inr (inr (inl i))) (inr (inr (inr n))) = absurd (unknown _ n kq)
    by_case (inr (inr (inr n))) b = absurd (unknown _ n kp)

-- two children get different targets, share alike, and have indices of different frames
child_child : (m : Map) (f : ℕ → ℕ) (h g : Handing) (v w : ℕ) → AllHeld m h.moved → AllPieces m h.shared
    → AllHeld m g.moved → AllPieces m g.shared
    → ((q : Spot) → In q h.moved → NotIn q g.moved) → ((q : Spot) → In q h.moved → NotIn q g.shared)
    → ((q : Spot) → In q g.moved → NotIn q h.shared)
    → v ≢ w → IsFresh v (parent_view m f) → IsFresh w (parent_view m f) → HasUniqueSpots (parent_view m f)
    → AgreeOnAll (child_view m f h v) (child_view m f g w)
child_child m f h g v w k c l d mm ms sm apart fv fw named p q e = by_case (comes m h k p) (comes m g l q)
  where
    same : IsSome (map.get m p) → IsSome (map.get m q) → child_means f h v p.frame ≡ f p.frame
        → child_means f g w q.frame ≡ f q.frame → p ≡ q
    same sp sq x y = named p q sp sq (at_frame _ _ p (sym x) ∙ e ∙ at_frame _ _ q y)

    by_case : ChildSpotSource m h p → ChildSpotSource m g q
        → ContentsAgree (map.get (child_map m h) p) (map.get (child_map m g) q)
    by_case a (inr (inr (inr n))) = inr (inl (not_held_of_none _ n))
    by_case (inr (inr (inr n))) b = inl (not_held_of_none _ n)
    by_case (inl a) (inl b) = let s = same (known_of_held _ (k p a.0)) (known_of_held _ (l q b.0))
        (moved_means f h v p a.0) (moved_means f g w q b.0) in
        absurd (not_both q g.moved b.0 (subst (λ (x : Spot). NotIn x g.moved) s (mm p a.0)))
    by_case (inl a) (inr (inl b)) = let s = same (known_of_held _ (k p a.0)) (known_of_piece _ (d q b.0))
        (moved_means f h v p a.0) (shared_means f g w q b.0) in
        absurd (not_both q g.shared b.0 (subst (λ (x : Spot). NotIn x g.shared) s (ms p a.0)))
    by_case (inl a) (inr (inr (inl i))) = absurd
        (fw p (known_of_held _ (k p a.0)) (sym (moved_means f h v p a.0) ∙ frame_of _ _ e
        ∙ index_means f g w q.frame i))
    by_case (inr (inl a)) (inl b) = let s = same (known_of_piece _ (c p a.0)) (known_of_held _ (l q b.0))
        (shared_means f h v p a.0) (moved_means f g w q b.0) in
        absurd (not_both p h.shared a.0 (subst (λ (x : Spot). NotIn x h.shared) (sym s) (sm q b.0)))
    by_case (inr (inl a)) (inr (inl b)) = let s =
        same (known_of_piece _ (c p a.0)) (known_of_piece _ (d q b.0)) (shared_means f h v p a.0)
        (shared_means f g w q b.0) in rw (a.1, b.1) (inr (inr (ap (cells_at m) s)))
    by_case (inr (inl a)) (inr (inr (inl i))) =
        absurd (fw p (known_of_piece _ (c p a.0))
        (sym (shared_means f h v p a.0) ∙ frame_of _ _ e ∙ index_means f g w q.frame i))
    by_case (inr (inr (inl i))) (inl b) = absurd
        (fv q (known_of_held _ (l q b.0)) (sym (moved_means f g w q b.0) ∙ sym (frame_of _ _ e)
        ∙ index_means f h v p.frame i))
    by_case (inr (inr (inl i))) (inr (inl b)) =
        absurd (fv q (known_of_piece _ (d q b.0))
        (sym (shared_means f g w q b.0) ∙ sym (frame_of _ _ e) ∙ index_means f h v p.frame i))
    by_case (inr (inr (inl i))) (inr (inr (inl j))) =
        absurd (apart (sym (index_means f h v p.frame i) ∙ frame_of _ _ e ∙ index_means f g w q.frame j))

-- ---- the parent

unknown_handed : (m : Map) (hs : List Handing) → AllHeld m (moved_of hs) → AllPieces m (shared_of hs) → (p : Spot)
    → map.get m p ≡ None → map.get (map_after_fork m hs) p ≡ None
unknown_handed m hs k c p e = elim (in_or p (moved_of hs)) [
  | inl i ↦ absurd (rw e at (k p i))
  | inr n ↦ elim (in_or p (shared_of hs)) [ inl j ↦ absurd (rw e at (c p j)) | inr o ↦ parent_rest m hs p n o ∙ e ]
]

known_handed : (m : Map) (hs : List Handing) → AllHeld m (moved_of hs) → AllPieces m (shared_of hs) → (p : Spot)
    → IsSome (map.get (map_after_fork m hs) p) → IsSome (map.get m p)
known_handed m hs k c p s = elim (known_or (map.get m p))
    [ inl n ↦ absurd (false≢true (rw (unknown_handed m hs k c p n) at s)) | inr t ↦ t ]

handed_named : (m : Map) (f : ℕ → ℕ) (hs : List Handing) → AllHeld m (moved_of hs) → AllPieces m (shared_of hs)
    → HasUniqueSpots (parent_view m f) → HasUniqueSpots (parent_view (map_after_fork m hs) f)
handed_named m f hs k c named p q sp sq e = named p q (known_handed m hs k c p sp) (known_handed m hs k c q sq) e

handed_other : (m : Map) (f : ℕ → ℕ) (hs : List Handing) → AllPieces m (shared_of hs)
    → ((q : Spot) → In q (moved_of hs) → NotIn q (shared_of hs)) → (u : View) → AgreeOnAll (parent_view m f) u
    → AgreeOnAll (parent_view (map_after_fork m hs) f) u
handed_other m f hs c apart u agree p q e = elim (in_or p (moved_of hs)) [
  | inl i ↦ rw (parent_moved m hs p i (apart p i)) (inl tt)
  | inr n ↦ elim (in_or p (shared_of hs)) [
    | inl j ↦ rw (parent_shared m hs p j) (share_agree (map.get m p) (map.get u.map q) (c p j) (agree p q e))
    | inr o ↦ rw (parent_rest m hs p n o) (agree p q e)
  ]
]

-- the handing's spots are spots of the plan
abbrev IsPart : List Handing → Handing → Type 0
IsPart hs h = ((q : Spot) → In q h.moved → In q (moved_of hs)) × ((q : Spot) → In q h.shared → In q (shared_of hs))

all_parts : (hs : List Handing) → AllByRecursion (IsPart hs) hs
all_parts hs = parts_of hs (λ q i. i) (λ q i. i)
  where
    parts_of : (gs : List Handing) → ((q : Spot) → In q (moved_of gs) → In q (moved_of hs))
        → ((q : Spot) → In q (shared_of gs) → In q (shared_of hs)) → AllByRecursion (IsPart hs) gs
    parts_of [] a b = tt
    parts_of (g ∷ gs) a b = (
      (λ q i. a q (in_front q g.moved (moved_of gs) i), λ q i. b q (in_front q g.shared (shared_of gs) i)),
      parts_of gs (λ q i. a q (in_back q g.moved (moved_of gs) i)) (λ q i. b q (in_back q g.shared (shared_of gs) i)),
    )

handed_child : (m : Map) (f : ℕ → ℕ) (hs : List Handing) → AllHeld m (moved_of hs) → AllPieces m (shared_of hs)
    → ((q : Spot) → In q (moved_of hs) → NotIn q (shared_of hs)) → HasUniqueSpots (parent_view m f)
    → (h : Handing) (v : ℕ) → IsPart hs h → IsFresh v (parent_view m f)
    → AgreeOnAll (parent_view (map_after_fork m hs) f) (child_view m f h v)
handed_child m f hs k c apart named h v part fresh p q e = elim (known_or (map.get m p)) [
  | inl n ↦ inl (not_held_of_none _ (unknown_handed m hs k c p n))
  | inr s ↦ by_case s (comes m h (λ r i. k r (part.0 r i)) q)
]
  where
    by_case : IsSome (map.get m p) → ChildSpotSource m h q
        → ContentsAgree (map.get (map_after_fork m hs) p) (map.get (child_map m h) q)
    by_case s (inl a) =
        let same = named p q s (known_of_held _ (k q (part.0 q a.0))) (e ∙ at_frame _ _ q (moved_means f h v q a.0)) in
        let i = subst (λ (x : Spot). In x (moved_of hs)) (sym same) (part.0 q a.0) in
        rw (parent_moved m hs p i (apart p i)) (inl tt)
    by_case s (inr (inl b)) =
        let same = named p q s (known_of_piece _ (c q (part.1 q b.0)))
        (e ∙ at_frame _ _ q (shared_means f h v q b.0)) in
        let j = subst (λ (x : Spot). In x (shared_of hs)) (sym same) (part.1 q b.0) in
        rw (parent_shared m hs p j, b.1) (inr (inr (ap (cells_at m) same)))
    by_case s (inr (inr (inl i))) = absurd (fresh p s (frame_of _ _ e ∙ index_means f h v q.frame i))
    by_case s (inr (inr (inr n))) = inr (inl (not_held_of_none _ n))

-- ---- all stores

all_both : (P : View → Type 0) (xs ys : List View) → AllByRecursion P xs → AllByRecursion P ys
    → AllByRecursion P (xs ++ ys)
all_both P [] ys a b = b
all_both P (x ∷ xs) ys a b = (a.0, all_both P xs ys a.1 b)

all_weaker : (P Q : View → Type 0) → ((u : View) → P u → Q u) → (ws : List View) → AllByRecursion P ws
    → AllByRecursion Q ws
all_weaker P Q f [] a = tt
all_weaker P Q f (w ∷ ws) a = (f w a.0, all_weaker P Q f ws a.1)

all_meet : (P Q R : View → Type 0) → ((u : View) → P u → Q u → R u) → (ws : List View) → AllByRecursion P ws
    → AllByRecursion Q ws → AllByRecursion R ws
all_meet P Q R f [] a b = tt
all_meet P Q R f (w ∷ ws) a b = (f w a.0 b.0, all_meet P Q R f ws a.1 b.1)

-- what holds of a child by its handing holds of all children
all_children : (P : View → Type 0) (Q : Handing → Type 0) (m : Map) (f new : ℕ → ℕ) (hs : List Handing)
    → AllByRecursion Q hs → ((h : Handing) (j : ℕ) → Q h → P (child_view m f h (new j)))
    → AllByRecursion P (child_views f new hs (children_of m hs))
all_children P Q m f new [] a g = tt
all_children P Q m f new (h ∷ hs) a g = (
  g h 0 a.0,
  all_children P Q m f (λ k. new (k + 1)) hs a.1 (λ i j q. g i (j + 1) q),
)

not_in_back : (q : Spot) (xs ys : List Spot) → NotIn q (xs ++ ys) → NotIn q ys
not_in_back q [] ys n = n
not_in_back q (x ∷ xs) ys n = not_in_back q xs ys n.1

distinct_apart : (xs ys : List Spot) → IsDistinct (xs ++ ys) → (q : Spot) → In q xs → NotIn q ys
distinct_apart [] ys d q i = absurd i
distinct_apart (x ∷ xs) ys d q (inl e) = subst (λ (s : Spot). NotIn s ys) (sym e) (not_in_back x xs ys d.0)
distinct_apart (x ∷ xs) ys d q (inr i) = distinct_apart xs ys d.1 q i

not_in_part : (q : Spot) (xs ys : List Spot) → ((s : Spot) → In s xs → In s ys) → NotIn q ys → NotIn q xs
not_in_part q xs ys sub n = elim (in_or q xs) [ inl i ↦ absurd (not_both q ys (sub q i) n) | inr o ↦ o ]

children_part : (m : Map) (f new : ℕ → ℕ) (hs : List Handing) (ws : List View) → AllHeld m (moved_of hs)
    → AllPieces m (shared_of hs) → IsDistinct (moved_of hs) → ((q : Spot) → In q (moved_of hs) → NotIn q (shared_of hs))
    → HasUniqueSpots (parent_view m f) → AllByRecursion (AgreeOnAll (parent_view m f)) ws
    → ((k : ℕ) → IsFresh (new k) (parent_view m f)) → ((k : ℕ) → AllByRecursion (IsFresh (new k)) ws)
    → ((i j : ℕ) → new i ≡ new j → i ≡ j)
    → IsPartition ws → IsPartition (child_views f new hs (children_of m hs) ++ ws)
children_part m f new [] ws k c d apart named agree fp fw inj part = part
children_part m f new (h ∷ hs) ws k c d apart named agree fp fw inj part =
    let kh : AllHeld m h.moved = λ q i. k q (in_front q h.moved (moved_of hs) i) in
    let ch : AllPieces m h.shared = λ q i. c q (in_front q h.shared (shared_of hs) i) in
    let kr : AllHeld m (moved_of hs) = λ q i. k q (in_back q h.moved (moved_of hs) i) in
    let cr : AllPieces m (shared_of hs) = λ q i. c q (in_back q h.shared (shared_of hs) i) in (
      child_named m f h (new 0) kh ch (fp 0) named,
      all_both (AgreeOnAll (child_view m f h (new 0))) (child_views f (λ k. new (k + 1)) hs (children_of m hs)) ws
          (all_children (AgreeOnAll (child_view m f h (new 0))) (IsPart hs) m f (λ k. new (k + 1)) hs (all_parts hs)
          (λ g j sub.
          child_child m f h g (new 0) (new (j + 1)) kh ch (λ q i. kr q (sub.0 q i)) (λ q i. cr q (sub.1 q i))
          (λ q i. not_in_part q g.moved (moved_of hs) sub.0 (distinct_apart h.moved (moved_of hs) d q i))
          (λ q i. not_in_part q g.shared (shared_of hs) sub.1
          (not_in_back q h.shared (shared_of hs) (apart q (in_front q h.moved (moved_of hs) i))))
          (λ q i. not_in_front q h.shared (shared_of hs) (apart q (in_back q h.moved (moved_of hs) (sub.0 q i))))
          (λ e. let z : 0 ≡ j + 1 = inj 0 (j + 1) e in omega (arith, z))
          (fp 0) (fp (j + 1)) named))
          (all_meet (AgreeOnAll (parent_view m f)) (IsFresh (new 0)) (AgreeOnAll (child_view m f h (new 0)))
          (λ u a b. child_other m f h (new 0) kh ch u b a) ws agree (fw 0)),
      children_part m f (λ k. new (k + 1)) hs ws kr cr (distinct_back h.moved (moved_of hs) d)
          (λ q i. not_in_back q h.shared (shared_of hs) (apart q (in_back q h.moved (moved_of hs) i)))
          named agree (λ k. fp (k + 1)) (λ k. fw (k + 1)) (λ i j e. let z = inj (i + 1) (j + 1) e in omega (arith, z))
          part,
    )

-- a fork keeps the partition
pub split_keeps : (m : Map) (hs : List Handing) → AllHeld m (moved_of hs) → AllPieces m (shared_of hs)
    → IsDistinct (moved_of hs) → ((q : Spot) → In q (moved_of hs) → NotIn q (shared_of hs))
    → KeepsPartition m (map_after_fork m hs) hs (children_of m hs)
split_keeps m hs k c d apart = record {
  keeps = λ f new ws part fresh. (
    handed_named m f hs k c part.0,
    all_both (AgreeOnAll (parent_view (map_after_fork m hs) f)) (child_views f new hs (children_of m hs)) ws
        (all_children (AgreeOnAll (parent_view (map_after_fork m hs) f)) (IsPart hs) m f new hs (all_parts hs)
        (λ h j sub. handed_child m f hs k c apart part.0 h (new j) sub (fresh.1 j).0))
        (all_weaker (AgreeOnAll (parent_view m f)) (AgreeOnAll (parent_view (map_after_fork m hs) f))
        (λ u a. handed_other m f hs c apart u a) ws part.1),
    children_part m f new hs ws k c d apart part.0 part.1 (λ j. (fresh.1 j).0) (λ j. (fresh.1 j).1) fresh.0 part.2,
  );
}

-- ---- a join

all_at : (P : Spot → Type 0) (ss : List Spot) → AllByRecursion P ss → (q : Spot) → In q ss → P q
all_at P [] a q i = absurd i
all_at P (s ∷ ss) a q (inl e) = subst P (sym e) a.0
all_at P (s ∷ ss) a q (inr i) = all_at P ss a.1 q i

-- a join keeps the partition
pub join_keeps : (m : Map) (c : Plain) → AllHeld c.map c.moved → AllAway m c.moved
    → RejoinsPartition m (map_after_join m c) c
join_keeps m c k away = record {
  keeps = λ f g ws (apart, (_, agree_after), (_, agree_before, others)) same. (
    λ p q sp sq e. apart p q (known p sp) (known q sq) e,
    all_meet (AgreeOnAll (parent_view m f)) (AgreeOnAll (parent_view c.map g))
        (AgreeOnAll (parent_view (map_after_join m c) f))
        (back f g same) ws agree_after agree_before,
    others,
  );
}
  where
    known : (p : Spot) → IsSome (map.get (map_after_join m c) p) → IsSome (map.get m p)
    known p s = elim (in_or p c.moved) [
      | inl i ↦ rw (away p i) refl
      | inr n ↦ rw (← get_taken_out c.map c.moved m p n)
          s
    ]

    back : (f g : ℕ → ℕ) → AllByRecursion (λ s. f s.frame ≡ g s.frame) c.moved → (u : View)
        → AgreeOnAll (parent_view m f) u → AgreeOnAll (parent_view c.map g) u
        → AgreeOnAll (parent_view (map_after_join m c) f) u
    back f g same u a b p q e = elim (in_or p c.moved) [
      | inl i ↦ rw (get_taken_in c.map c.moved m p i (known_of_held _ (k p i)))
          (b p q (at_frame _ _ p (sym (all_at (λ s. f s.frame ≡ g s.frame) c.moved same p i)) ∙ e))
      | inr n ↦ rw (get_taken_out c.map c.moved m p n) (a p q e)
    ]
