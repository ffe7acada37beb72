-- Layouts that get a node are led to block 0, and where none is left that may get one, all that are led have theirs.
use Rattle.std.proofs.Common.{◌≡◌, ◌≢◌, ⊎_elim, refl, ap, sym, ◌∙◌, subst, ℕ, zero, suc, ◌+◌, ◌*◌, ◌<◌}
use Rattle.std.proofs.Common.{◌==◌, if◌then◌else◌, List, [], ◌∷◌, length, replicate, Option, Some, None, Bool}
use Rattle.std.proofs.Common.{true, false, arith, eqb-true}
use Rattle.std.specs.Prelude.{slice_get, slice_set}
use Rattle.std.specs.Option.{is_some}
use Rattle.std.proofs.lemmas.Bool.{eq-eqb, cases_eq}
use Rattle.std.proofs.lemmas.List.{length-set}
use Rattle.std.proofs.lemmas.List.Folds.{sum_by-replicate}
use Rattle.std.proofs.lemmas.List.Sums.{sum_by-set}
use Rattle.std.proofs.lemmas.Option.{slice_get_within, get_or_from_slice_get, none-some, same_Some}
use Rattle.sp_base.proofs.Facts.{get_beside_set, get_where_set, item_is_not_none}
use Rattle.sp_code.specs.declared.code.Layout.{Layout}
use Rattle.sp_code.specs.Machine.{layout_of}
use Rattle.sp_code.specs.Memory.{Home, OfBlock}
use Rattle.sp_verify_rules.specs.Areas.{on_option, parent_of, leads_by, homes_by}
use Rattle.sp_verify_rules.specs.NameRules as named
use Rattle.sp_verify_rules.proofs.FrameScopes.{none_homes}
use Rattle.sp_verify_areas.specs.declared.tree.Frame.TheVariants as frame
use Rattle.sp_verify_areas.specs.declared.tree.Grown.{Grown}
use Rattle.sp_verify_areas.specs.declared.tree.Node.{Node}
use Rattle.sp_verify_areas.specs.Blocks.{number_from}
use Rattle.sp_verify_areas.specs.Grown.{node_at, none_count, one_if_none, GetsNode, GrowthStep, EachItem}
use Rattle.sp_verify_areas.specs.Grown.{HasBlockNode, HaveBlockNodes}
use Rattle.sp_verify_areas.specs.Grown.{parent_node, inside_of}
use Rattle.sp_verify_areas.specs.Grown.{IsTried, HaveAllBlockNodes}
use Rattle.sp_verify_areas.specs.Tree.{IsAround, around_list, with_list}
use Rattle.sp_verify_areas.proofs.BlockLaws.{has_layout, place_none, place_some}
use Rattle.sp_verify_areas.proofs.TreeGrowth.{at_last, before_last}

-- ---- layouts and their places

pub layout_block : (ls : List Layout) (b : ℕ) (l : Layout) → layout_of ls b ≡ Some l → l.block ≡ b
layout_block [] b l e = absurd (none-some l e)
layout_block (m ∷ ls) b l e = go (m.block == b) refl e (layout_block ls b l)
  where
    go : (t : Bool) → m.block == b ≡ t → (if t then Some m else layout_of ls b) ≡ Some l
        → (layout_of ls b ≡ Some l → l.block ≡ b) → l.block ≡ b
    go true t e on = ap (λ (x : Layout). x.block) (sym (same_Some m l e)) ∙ eqb-true m.block b t
    go false t e on = on e

-- a layout that stands somewhere is one of its block
pub layout_there : (ls : List Layout) (j : ℕ) (l : Layout) → slice_get ls j ≡ Some l → layout_of ls l.block ≡ None → ⊥
layout_there [] j l e n = none-some l e
layout_there (m ∷ ls) zero l e n = go (m.block == l.block)
    (eq-eqb m.block l.block (ap (λ (x : Layout). x.block) (same_Some m l e))) n
  where
    go : (t : Bool) → t ≡ true → (if t then Some m else layout_of ls l.block) ≡ None → ⊥
    go true t n = cc (n)
    go false t n = cc (t)
layout_there (m ∷ ls) (suc j) l e n = go (m.block == l.block) n (layout_there ls j l e)
  where
    go : (t : Bool) → (if t then Some m else layout_of ls l.block) ≡ None → (layout_of ls l.block ≡ None → ⊥) → ⊥
    go true n on = cc (n)
    go false n on = on n

pub place_there : (ls : List Layout) (j : ℕ) (l : Layout) → slice_get ls j ≡ Some l → number_from 0 ls l.block ≡ None
    → ⊥
place_there ls j l e n = layout_there ls j l e (place_none 0 ls l.block n)

-- where a block has a place, it has a layout there
pub placed_layout : (ls : List Layout) (b k : ℕ) → number_from 0 ls b ≡ Some k → (m : Layout)
    × (slice_get ls k ≡ Some m) × (layout_of ls b ≡ Some m)
placed_layout ls b k e = go (layout_of ls b) refl
  where
    go : (o : Option Layout) → layout_of ls b ≡ o → (m : Layout) × (slice_get ls k ≡ Some m) × (layout_of ls b ≡ Some m)
    go None n = absurd (let s = sym (ap is_some e) ∙ has_layout 0 ls b ∙ ap named.is_some n in cc (s))
    go (Some m) s = (m, place_some ls b k e ∙ s, s)

-- ---- one more

record IsParent (ls : List Layout) (os : List (Option ℕ)) (l : Layout) (n : ℕ) : Type 0 where
  block : ℕ
  place : ℕ
  layout : Layout
  parent : l.parent ≡ Some block
  there : slice_get ls place ≡ Some layout
  first : layout_of ls block ≡ Some layout
  node : node_at os place ≡ Some n

is_parent : (ls : List Layout) (os : List (Option ℕ)) (l : Layout) (n : ℕ) → parent_node ls os l ≡ Some n
    → IsParent ls os l n
is_parent ls os l n e = go l.parent refl e
  where
    at : (b : ℕ) → l.parent ≡ Some b → (o : Option ℕ) → number_from 0 ls b ≡ o
        → on_option None o (λ k. node_at os k) ≡ Some n → IsParent ls os l n
    at b p None s e = absurd (none-some n e)
    at b p (Some k) s e = let m = placed_layout ls b k s in
        record { block = b; place = k; layout = m.0; parent = p; there = m.1; first = m.2; node = e }

    go : (o : Option ℕ) → l.parent ≡ o
        → on_option None o (λ b. on_option None (number_from 0 ls b) (λ k. node_at os k)) ≡ Some n → IsParent ls os l n
    go None p e = absurd (none-some n e)
    go (Some b) p e = at b p (number_from 0 ls b) refl e

-- what a layout may get a node inside
data IsInside (ls : List Layout) (os : List (Option ℕ)) (l : Layout) (o : Option ℕ) : Type 0 where
  AsRoot : l.block == 0 ≡ true → o ≡ None → IsInside ls os l o
  InParent : l.block == 0 ≡ false → (n : ℕ) → o ≡ Some n → IsParent ls os l n → IsInside ls os l o

is_inside : (ls : List Layout) (os : List (Option ℕ)) (l : Layout) (o : Option ℕ) → inside_of ls os l ≡ Some o
    → IsInside ls os l o
is_inside ls os l o e = go (l.block == 0) refl e
  where
    at : l.block == 0 ≡ false → (u : Option ℕ) → parent_node ls os l ≡ u → on_option None u (λ n. Some (Some n))
        ≡ Some o
        → IsInside ls os l o
    at z None s e = absurd (none-some o e)
    at z (Some n) s e = InParent z n (sym (same_Some (Some n) o e)) (is_parent ls os l n s)

    go : (t : Bool) → l.block == 0 ≡ t
        → (if t then Some None else on_option None (parent_node ls os l) (λ n. Some (Some n))) ≡ Some o
        → IsInside ls os l o
    go true z e = AsRoot z (sym (same_Some None o e))
    go false z e = at z (parent_node ls os l) refl e

module _ (ls : List Layout) (os : List (Option ℕ)) (lists : ℕ → List Home) (size : ℕ) (l : Layout) (o : Option ℕ) where
  -- the new node's layout is led
  led_new : ((j n : ℕ) (m : Layout) → node_at os j ≡ Some n → slice_get ls j ≡ Some m
      → (n < size) × HasBlockNode ls lists m n)
      → IsInside ls os l o
      → (new : List Home) → new ≡ OfBlock l.block ∷ around_list lists o → (k : ℕ) → size < k
      → (leads_by k ls (Some l) ≡ true)
      × (new ≡ homes_by k ls (Some l))
  led_new each i new en zero h = absurd (omega (arith, h))
  led_new each (AsRoot z e) new en (suc k) h = (
    ap (λ (t : Bool). if t then true else leads_by k ls (parent_of ls l.parent)) z,
    en ∙ ap (λ u. OfBlock l.block ∷ around_list lists u) e
        ∙ sym (ap (λ (hs : List Home). OfBlock l.block ∷ hs)
        (ap (λ (t : Bool). homes_by k ls (if t then None else parent_of ls l.parent)) z ∙ none_homes k ls)),
  )
  led_new each (InParent z n e p) new en (suc k) h = (
    ap (λ (t : Bool). if t then true else leads_by k ls (parent_of ls l.parent)) z ∙ ap (leads_by k ls) up
        ∙ before.0,
    homes,
  )
    where
      up : parent_of ls l.parent ≡ Some p.layout
      up = ap (parent_of ls) p.parent ∙ p.first

      led : (n < size) × HasBlockNode ls lists p.layout n
      led = each p.place n p.layout p.node p.there

      below : n < k
      below = let a = led.0 in omega (arith, a, h)

      before : (leads_by k ls (Some p.layout) ≡ true) × (lists n ≡ homes_by k ls (Some p.layout))
      before = led.1 k below

      homes : new ≡ homes_by (suc k) ls (Some l)
      homes =
          en ∙ ap (λ u. OfBlock l.block ∷ around_list lists u) e
          ∙ ap (λ (hs : List Home). OfBlock l.block ∷ hs) (before.1 ∙ ap (homes_by k ls) (sym up)
          ∙ sym (ap (λ (t : Bool). homes_by k ls (if t then None else parent_of ls l.parent)) z))

  is_around : ((j n : ℕ) (m : Layout) → node_at os j ≡ Some n → slice_get ls j ≡ Some m → (n < size)
      × HasBlockNode ls lists m n) → IsInside ls os l o → IsAround size o
  is_around each (AsRoot z e) = subst (IsAround size) (sym e) tt
  is_around each (InParent z n e p) = subst (IsAround size) (sym e) (each p.place n p.layout p.node p.there).0

lacks : (os : List (Option ℕ)) (j : ℕ) → j < length os → node_at os j ≡ None → slice_get os j ≡ Some None
lacks os j l e = go (slice_get os j) refl e
  where
    go : (o : Option (Option ℕ)) → slice_get os j ≡ o → on_option None o (λ u. u) ≡ None → slice_get os j ≡ Some None
    go None s e = absurd (item_is_not_none os j l s)
    go (Some u) s e = s ∙ ap Some e

-- one that had none has one now: one fewer lacks it
pub left_falls : (os : List (Option ℕ)) (j n : ℕ) → j < length os → node_at os j ≡ None
    → none_count (slice_set os j (Some n)) + 1 ≡ none_count os
left_falls os j n l e =
    let s = sum_by-set one_if_none os j (Some n) None l in
    let g = ap one_if_none (get_or_from_slice_get os j None None (lacks os j l e)) in
    omega (arith, s, g)

pub node_new : (os : List (Option ℕ)) (j n : ℕ) → j < length os → node_at (slice_set os j (Some n)) j ≡ Some n
node_new os j n l = ap (λ (u : Option (Option ℕ)). on_option None u (λ o. o)) (get_where_set os j (Some n) l)

pub node_old : (os : List (Option ℕ)) (j n k : ℕ) → j ≢ k → node_at (slice_set os j (Some n)) k ≡ node_at os k
node_old os j n k d = ap (λ (u : Option (Option ℕ)). on_option None u (λ o. o)) (get_beside_set os j k (Some n) d)

pub is_none : {T : Type 0} (o : Option T) → is_some o ≡ false → o ≡ None
is_none None e = refl
is_none (Some x) e = absurd (cc e)

pub nothing_at : (count j : ℕ) (n : ℕ) → node_at (replicate count None) j ≡ Some n → ⊥
nothing_at zero j n e = none-some n e
nothing_at (suc k) zero n e = none-some n e
nothing_at (suc k) (suc j) n e = nothing_at k j n e

pub length_none : (count : ℕ) → length (replicate {A = Option ℕ} count None) ≡ count
length_none zero = refl
length_none (suc k) = ap suc (length_none k)

module _ (ls : List Layout) where
  pub led_more : (old new : Grown) (j place : ℕ) (l : Layout) (o : Option ℕ) → HaveBlockNodes ls old
      → slice_get ls j ≡ Some l
      → node_at old.of j ≡ None → number_from 0 ls l.block ≡ Some place
      → inside_of ls old.of l ≡ Some o → GetsNode old new j (frame.Block l.block place) o → HaveBlockNodes ls new
  led_more old new j place l o are e n p i g = record {
    lists = lists;
    tree = g.puts.lists ls are.lists are.tree (place_some ls l.block place p) around;
    long = ap length g.of ∙ length-set old.of j (Some size) ∙ are.long;
    count = (let a = are.count in let b = g.puts.more in let f = left_falls old.of j size long n in
        let s = ap none_count g.of in omega (arith, a, b, f, s));
    each = each;
  }
    where
      size : ℕ
      size = length old.nodes

      new_list : List Home
      new_list = OfBlock l.block ∷ around_list are.lists o

      lists : ℕ → List Home
      lists = with_list are.lists size new_list

      inside : IsInside ls old.of l o
      inside = is_inside ls old.of l o i

      around : IsAround (length old.nodes) o
      around = is_around ls old.of are.lists size l o are.each inside

      long : j < length old.of
      long = let a = are.long in let b = slice_get_within ls j l e in omega (arith, a, b)

      more : length new.nodes ≡ size + 1
      more = g.puts.more

      each : (i m : ℕ) (x : Layout) → node_at new.of i ≡ Some m → slice_get ls i ≡ Some x → (m < length new.nodes)
          × HasBlockNode ls lists x m
      each i m x h s = ⊎_elim same other (cases_eq j i)
        where
          same : j ≡ i → (m < length new.nodes) × HasBlockNode ls lists x m
          same q =
              let is : size ≡ m = same_Some size m (sym (node_new old.of j size long)
              ∙ ap (λ (os : List (Option ℕ)). node_at os j) (sym g.of) ∙ ap (node_at new.of) q ∙ h) in
              let lx : l ≡ x = same_Some l x (sym e ∙ ap (slice_get ls) q ∙ s) in
              subst (λ z. (z < length new.nodes) × HasBlockNode ls lists x z) is
              (subst (λ z. (size < length new.nodes) × HasBlockNode ls lists z size) lx (
                omega (arith, more),
                led_new ls old.of are.lists size l o are.each inside (lists size)
                    (at_last are.lists size new_list),
              ))

          other : j ≢ i → (m < length new.nodes) × HasBlockNode ls lists x m
          other d =
              let was = are.each i m x (sym (node_old old.of j size i d)
              ∙ ap (λ (os : List (Option ℕ)). node_at os i) (sym g.of) ∙ h) s in
              let a = was.0 in (
                omega (arith, a, more),
                λ k b. let led = was.1 k b in
                    (led.0, before_last are.lists size new_list m a ∙ led.1),
              )

  pub led_step : (old new : Grown) (j place : ℕ) (l : Layout) (o : Option ℕ) → HaveBlockNodes ls old
      → slice_get ls j ≡ Some l
      → node_at old.of j ≡ None → number_from 0 ls l.block ≡ Some place
      → inside_of ls old.of l ≡ Some o → GetsNode old new j (frame.Block l.block place) o
      → GrowthStep (HaveBlockNodes ls) old new (IsTried ls j) true
  led_step old new j place l o are e n p i g = record {
    just = led_more old new j place l o are e n p i g;
    less = λ z. (let f = left_falls old.of j (length old.nodes) long n in let s = ap none_count g.of in
        omega (arith, f, s));
    unchanged = λ z. absurd (cc z);
  }
    where
      long : j < length old.of
      long = let a = are.long in let b = slice_get_within ls j l e in omega (arith, a, b)

  -- ---- the beginning

  all_left : (count : ℕ) → none_count (replicate count None) ≡ count
  all_left count = let e : none_count (replicate count None) ≡ count * 1 =
      sum_by-replicate one_if_none count None in omega
      (arith, e)

  pub none_led : (g : Grown) → g.nodes ≡ [] → g.of ≡ replicate (length ls) None → HaveBlockNodes ls g
  none_led g en eo = record {
    lists = λ k. [];
    tree = λ k n e. absurd (none-some n (ap (λ (ns : List Node). slice_get ns k) (sym en) ∙ e));
    long = ap length eo ∙ length_none (length ls);
    count = (let a = ap length en in let b = ap none_count eo in let d = all_left (length ls) in
        omega (arith, a, b, d));
    each = λ j n l e s. absurd (nothing_at (length ls) j n (ap (λ (os : List (Option ℕ)). node_at os j) (sym eo) ∙ e));
  }

-- ---- the end

module _ (ls : List Layout) (g : Grown) (are : HaveBlockNodes ls g) (tried : EachItem (IsTried ls) (length ls) g) where
  root : (l : Layout) → l.block == 0 ≡ true → inside_of ls g.of l ≡ Some None
  root l z = ap (λ (t : Bool). if t then Some None else on_option None (parent_node ls g.of l) (λ n. Some (Some n))) z

  inner : (l : Layout) (b k n : ℕ) → l.block == 0 ≡ false → l.parent ≡ Some b → number_from 0 ls b ≡ Some k
      → node_at g.of k ≡ Some n → inside_of ls g.of l ≡ Some (Some n)
  inner l b k n z p q s =
      ap (λ (t : Bool). if t then Some None else on_option None (parent_node ls g.of l) (λ n. Some (Some n))) z
      ∙ ap (λ (u : Option ℕ). on_option None u (λ n. Some (Some n)))
      (ap (λ (u : Option ℕ). on_option None u (λ b. on_option None (number_from 0 ls b) (λ k. node_at g.of k))) p
      ∙ ap (λ (u : Option ℕ). on_option None u (λ k. node_at g.of k)) q ∙ s)

  nowhere : (k : ℕ) → leads_by k ls None ≡ true → ⊥
  nowhere zero e = cc (e)
  nowhere (suc k) e = cc (e)

  abbrev HasNode : ℕ → Type 0
  HasNode j = (n : ℕ) × (node_at g.of j ≡ Some n)

  abbrev AllLedHaveNodes : ℕ → Type 0
  AllLedHaveNodes k = (j : ℕ) (l : Layout) → slice_get ls j ≡ Some l → leads_by k ls (Some l) ≡ true → (n : ℕ)
      × (node_at g.of j ≡ Some n)

  at_parent : (k : ℕ) → AllLedHaveNodes k → (j : ℕ) (l : Layout) → slice_get ls j ≡ Some l → (b : ℕ)
      → l.block == 0 ≡ false
      → l.parent ≡ Some b → (u : Option ℕ) → number_from 0 ls b ≡ u → leads_by k ls (layout_of ls b) ≡ true → HasNode j
  at_parent k on j l e b z p None q h = absurd (nowhere k (ap (leads_by k ls) (sym (place_none 0 ls b q)) ∙ h))
  at_parent k on j l e b z p (Some place) q h =
      let m = placed_layout ls b place q in
      let n = on place m.0 m.1 (ap (leads_by k ls) (sym m.2) ∙ h) in
      tried j (slice_get_within ls j l e) l (Some n.0) e (inner l b place n.0 z p q n.1)

  up : (k : ℕ) → AllLedHaveNodes k → (j : ℕ) (l : Layout) → slice_get ls j ≡ Some l → (u : Option ℕ)
      → l.block == 0 ≡ false
      → l.parent ≡ u → leads_by k ls (parent_of ls u) ≡ true → HasNode j
  up k on j l e None z p h = absurd (nowhere k h)
  up k on j l e (Some b) z p h = at_parent k on j l e b z p (number_from 0 ls b) refl h

  one : (k : ℕ) → AllLedHaveNodes k → (j : ℕ) (l : Layout) → slice_get ls j ≡ Some l → (t : Bool) → l.block == 0 ≡ t
      → (if t then true else leads_by k ls (parent_of ls l.parent)) ≡ true → HasNode j
  one k on j l e true z h = tried j (slice_get_within ls j l e) l None e (root l z)
  one k on j l e false z h = up k on j l e l.parent z refl h

  all : (k : ℕ) → AllLedHaveNodes k
  all zero j l e h = absurd (cc h)
  all (suc k) j l e h = one k (all k) j l e (l.block == 0) refl h

  pub all_led : HaveAllBlockNodes ls g
  all_led = record { led = are; all = λ j k l e h. all k j l e h }
