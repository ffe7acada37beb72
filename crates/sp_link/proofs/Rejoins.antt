-- A child ends and its parent takes back what moved to it: the parent joins on with one child fewer (`joins_on`), or
-- stands again after the last one (`runs_on`).
use Rattle.std.proofs.Common.{◌≡◌, ◌⊎◌, inr, ⊎_elim, ℕ, zero, suc, ◌+◌, ◌<◌, ◌≤◌, ◌==◌, [], ◌∷◌, length, Option, Some}
use Rattle.std.proofs.Common.{None, Bool, true, false, ◌&&◌, if◌then◌else◌, eqb-true, eq-eqb, refl, sym, ap, ◌∙◌, subst}
use Rattle.std.proofs.Common.{arith}
use Rattle.std.specs.Prelude.{◌≢◌, IsSome}
use Rattle.std.specs.FinMap as fin
use Rattle.sp_cell.specs.declared.spot.Spot.{Spot}
use Rattle.sp_cell.specs.Fork.{map_after_join}
use Rattle.sp_cell.specs.Map.{Plain, Content, with_map}
use Rattle.sp_cell.proofs.Plan.{get_taken_out, not_both}
use Rattle.sp_cell.specs.Spots.{In, NotIn}
use Rattle.sp_meaning.specs.Model.{Name, Condition, Absent, Ended, Becomes, with_change}
use Rattle.sp_meaning.specs.Steps.{has_ended, all_ended}
use Rattle.sp_meaning.specs.LocalWork.{LocationContent, Address, LocalState, Identity, Process}
use Rattle.sp_meaning.specs.SuperPascal.{superpascal}
use Rattle.sp_meaning.specs.Runs.{StateOf}
use Rattle.sp_meaning.proofs.Keys.{name_test}
use Rattle.sp_meaning.proofs.Maps.{at_same, at_other}
use Rattle.sp_meaning.proofs.Rights.{OwnLocation}
use Rattle.sp_code.specs.Machine.{Config, At}
use Rattle.sp_code.specs.Memory.{Memory}
use Rattle.sp_codegen.specs.MemoryRelation.{spot_at}
use Rattle.sp_codegen.proofs.Joins.{joined_joining, all_joined}
use Rattle.sp_codegen.proofs.Contents.{known_piece}
use Rattle.sp_link.proofs.Relation.{RunContext, BirthRights, RightsOfAll, Named, Called, St, ProcessMatches, Joined}
use Rattle.sp_link.proofs.Relation.{Handed, Lives_yet, Away_yet}
use Rattle.sp_link.proofs.Relation.{left_of}
use Rattle.sp_link.proofs.OthersStay.{Jo, joining_more}
use Rattle.sp_code.proofs.Plans.{out_of}

known_as : (c : Option Content) (x : Content) → c ≡ Some x → IsSome c
known_as None x e = absurd (cc e)
known_as (Some c) x e = refl

module _ (G : RunContext) (lv : RightsOfAll G) (P : Name) (since k n left i : ℕ) (pr : Process) (at : StateOf G.g)
    (d : Config (Memory Plain)) (z : Joined G (lv P) (λ a b. lv ((a, b) ∷ P)) P since k n left pr at d) (lt : i < n)
    (yet : has_ended (at.condition ((k, i) ∷ P)) ≡ false) where
  abbrev pub child_name : Name
  child_name = (k, i) ∷ P

  abbrev pub kids : ℕ → ℕ → BirthRights
  kids a b = lv ((a, b) ∷ P)

  -- the child is gone
  abbrev pub t1 : StateOf G.g
  t1 = with_change {L = superpascal G.g} (Becomes child_name Ended) at

  gone : t1.condition child_name ≡ Ended
  gone = at_same name_test at.condition child_name Ended

  pub others : (r : Name) → r ≢ child_name → t1.condition r ≡ at.condition r
  others r e = at_other name_test at.condition child_name r Ended (λ h. e (sym h))

  abbrev second : Name → ℕ
  second [] = 0
  second (x ∷ r) = x.1

  brother : (j : ℕ) → j ≢ i → (k, j) ∷ P ≢ child_name
  brother j e h = e (ap second h)

  other_same : (j : ℕ) → j ≢ i → has_ended (t1.condition ((k, j) ∷ P)) ≡ has_ended (at.condition ((k, j) ∷ P))
  other_same j e = ap (λ x. has_ended x) (others ((k, j) ∷ P) (brother j e))

  -- how many are left
  left_above : (m : ℕ) → m ≤ i → left_of G (lv P) kids P t1.condition k m ≡ left_of G (lv P) kids P at.condition k m
  left_above zero h = refl
  left_above (suc m) h = ap (λ b. (if b then 0 else 1) + left_of G (lv P) kids P t1.condition k m)
      (other_same m (λ e. omega (arith, e, h)))
      ∙ ap (λ x. (if has_ended (at.condition ((k, m) ∷ P)) then 0 else 1) + x) (left_above m (omega (arith, h)))

  left_below : (m : ℕ) → i < m → suc (left_of G (lv P) kids P t1.condition k m)
      ≡ left_of G (lv P) kids P at.condition k m
  left_below zero h = absurd (omega (arith, h))
  left_below (suc m) h = by (m == i) refl (λ e. left_below m e)
    where
      by : (b : Bool) → m == i ≡ b → (i < m → suc (left_of G (lv P) kids P t1.condition k m)
          ≡ left_of G (lv P) kids P at.condition k m)
          → suc (left_of G (lv P) kids P t1.condition k (suc m)) ≡ left_of G (lv P) kids P at.condition k (suc m)
      by true e ih =
          let is : m ≡ i = eqb-true m i e in
          let a : has_ended (t1.condition ((k, m) ∷ P)) ≡ true = ap (λ j. has_ended (t1.condition ((k, j) ∷ P))) is
          ∙ ap (λ x. has_ended x) gone in
          let b : has_ended (at.condition ((k, m) ∷ P)) ≡ false = ap (λ j. has_ended (at.condition ((k, j) ∷ P))) is
          ∙ yet in
          let l : left_of G (lv P) kids P t1.condition k m ≡ left_of G (lv P) kids P at.condition k m =
          left_above m (omega (arith, is)) in
          let x : left_of G (lv P) kids P t1.condition k (suc m) ≡ 0 + left_of G (lv P) kids P at.condition k m =
          ap (λ c. (if c then 0 else 1) + left_of G (lv P) kids P t1.condition k m) a ∙ ap (λ y. 0 + y) l in
          let y : left_of G (lv P) kids P at.condition k (suc m) ≡ 1 + left_of G (lv P) kids P at.condition k m =
          ap (λ c. (if c then 0 else 1) + left_of G (lv P) kids P at.condition k m) b in
          omega (arith, x, y)
      by false e ih =
          let apart : m ≢ i = λ f. let x : false ≡ true = sym e ∙ eq-eqb m i f in absurd (cc x) in
          let lt1 : i < m = omega (arith, h, apart) in
          let l = ih lt1 in
          let x : left_of G (lv P) kids P t1.condition k (suc m)
          ≡ (if has_ended (at.condition ((k, m) ∷ P)) then 0 else 1) + left_of G (lv P) kids P t1.condition k m =
          ap (λ c. (if c then 0 else 1) + left_of G (lv P) kids P t1.condition k m) (other_same m apart) in
          omega (arith, x, l)

  pub one_fewer : left ≡ suc (left_of G (lv P) kids P t1.condition k n)
  one_fewer = z.count ∙ sym (left_below n lt)

  -- where none is left all have ended
  pub all_over : (c : Name → Condition Process LocationContent Address) (m : ℕ) → left_of G (lv P) kids P c k m ≡ 0
      → all_ended c P k m ≡ true
  all_over c zero e = refl
  all_over c (suc m) e = by (has_ended (c ((k, m) ∷ P))) refl (λ h. all_over c m h)
    where
      by : (b : Bool) → has_ended (c ((k, m) ∷ P)) ≡ b → (left_of G (lv P) kids P c k m ≡ 0 → all_ended c P k m ≡ true)
          → all_ended c P k (suc m) ≡ true
      by true f ih =
          let x : left_of G (lv P) kids P c k (suc m) ≡ 0 + left_of G (lv P) kids P c k m =
          ap (λ b. (if b then 0 else 1) + left_of G (lv P) kids P c k m) f in
          ap (λ b. b && all_ended c P k m) f ∙ ih (omega (arith, x, e))
      by false f ih = let x : left_of G (lv P) kids P c k (suc m) ≡ 1 + left_of G (lv P) kids P c k m =
          ap (λ b. (if b then 0 else 1) + left_of G (lv P) kids P c k m) f in absurd (omega (arith, x, e))

  pub none_lives : (c : Name → Condition Process LocationContent Address) (m : ℕ) → left_of G (lv P) kids P c k m ≡ 0
      → (j : ℕ)
      → j < m → has_ended (c ((k, j) ∷ P)) ≡ false → ⊥
  none_lives c zero e j h f = omega (arith, h)
  none_lives c (suc m) e j h f = by (j == m) refl (λ a b. none_lives c m a j b f)
    where
      x : left_of G (lv P) kids P c k (suc m) ≡ (if has_ended (c ((k, m) ∷ P)) then 0 else 1)
          + left_of G (lv P) kids P c k m
      x = refl

      by : (b : Bool) → j == m ≡ b → (left_of G (lv P) kids P c k m ≡ 0 → j < m → ⊥) → ⊥
      by true g ih = let y : has_ended (c ((k, m) ∷ P)) ≡ false =
          ap (λ a. has_ended (c ((k, a) ∷ P))) (sym (eqb-true j m g)) ∙ f in
          let v : left_of G (lv P) kids P c k (suc m) ≡ 1 + left_of G (lv P) kids P c k m =
          ap (λ b. (if b then 0 else 1) + left_of G (lv P) kids P c k m) y in omega (arith, v, e)
      by false g ih = let apart : j ≢ m = λ a. let b : false ≡ true = sym g ∙ eq-eqb j m a in absurd (cc b) in
          ih (omega (arith, x, e)) (omega (arith, h, apart))

  -- what is left is what was, but for this one
  still : (j : ℕ) → Lives_yet G (lv P) kids P t1 k n j → Lives_yet G (lv P) kids P at k n j × (j ≢ i)
  still j h = ((h.0, sym (other_same j apart) ∙ h.1), apart)
    where
      apart : j ≢ i
      apart e = let x : true ≡ false = sym (ap (λ y. has_ended y) gone)
          ∙ ap (λ a. has_ended (t1.condition ((k, a) ∷ P))) (sym e) ∙ h.1 in absurd (cc x)

  there_still : (j : ℕ) → j < n → t1.condition ((k, j) ∷ P) ≢ Absent
  there_still j h e = by (j == i) refl
    where
      ended_there : ◌≡◌ {A =
          Condition Rattle.sp_meaning.specs.LocalWork.Process Rattle.sp_meaning.specs.LocalWork.LocationContent
          Rattle.sp_meaning.specs.LocalWork.Address} Ended Rattle.sp_meaning.specs.Model.Absent → ⊥
      ended_there f = cc f

      by : (b : Bool) → j == i ≡ b → ⊥
      by true f = ended_there (sym gone ∙ ap (λ a. t1.condition ((k, a) ∷ P)) (sym (eqb-true j i f)) ∙ e)
      by false f = let apart : j ≢ i = λ g. (let x : false ≡ true = sym f ∙ eq-eqb j i g in absurd (cc x)) in
          z.there j h (sym (others ((k, j) ∷ P) (brother j apart)) ∙ e)

  pub hd : Handed G (lv P) kids P z.js z.memory (kids k i) child_name
  hd = z.children i (lt, yet)

  module _ {w : Identity} {since_c : ℕ} {oc : LocalState} {nc : Memory Plain}
      (child : St G (lv child_name) (λ a b. lv ((a, b) ∷ child_name)) child_name w since_c (lv child_name).below oc
      at.store nc) (mo : nc.store.moved ≡ (lv child_name).moved) where
    in_moved : (a : Spot) → In a nc.store.moved → In a (kids k i).moved
    in_moved a h = subst (λ y. In a y) mo h

    kept_now : (a : Spot) → In a nc.store.moved → IsSome (fin.get nc.store.map a)
    kept_now a h = ⊎_elim
        (λ x. (let y = child.position (inr x.0) in
        subst (λ v. IsSome (fin.get nc.store.map v)) (sym x.1) (known_piece _ _ y.2)))
        (⊎_elim
        (λ x. (let y = child.output (inr x.0) in
        subst (λ v. IsSome (fin.get nc.store.map v)) (sym x.1) (known_as _ _ y.2)))
        (λ x. (let (owner, height, variable, live, may, spot_is) = x in
        let y = child.held owner height variable live may in
        subst (λ v. IsSome (fin.get nc.store.map v)) (sym spot_is) (known_piece _ _ y.piece))))
        (hd.kept a (in_moved a h))

    joining_now : Jo G (lv P) kids P pr.who since (λ a. Away_yet G (lv P) kids P at k n a × NotIn a nc.store.moved) z.js
        pr.own at.store z.memory (map_after_join z.held nc.store)
    joining_now = joined_joining G.g G.code pr.who (Named G) (Called G) (λ l. OwnLocation P l ⊎ (lv P).W l)
        (λ l. OwnLocation P l ⊎ (lv P).R l) (lv P).J (lv P).low (length (lv P).below) (lv P).born since G.pause
        (lv P).moved
        z.joining
        w (λ l. OwnLocation child_name l ⊎ (lv child_name).W l) (λ l. OwnLocation child_name l ⊎ (lv child_name).R l)
        (lv child_name).J (lv child_name).low (length (lv child_name).below) (lv child_name).born since_c G.pause
        (lv child_name).moved child
        (λ r h x l m a. hd.live r h x l m (in_moved _ a))
        (λ h jh j rest x v e i. subst (λ y. NotIn (spot_at j.machine.number 0) y) (sym mo)
        (hd.no_index h jh j rest x v e i))
        (λ r a. inr (hd.input r (in_moved _ a))) (λ r a. inr (hd.output r (in_moved _ a))) kept_now
        (λ a h. hd.old a (in_moved a h))

    pub joining_after : Jo G (lv P) kids P pr.who since (Away_yet G (lv P) kids P t1 k n) z.js pr.own t1.store z.memory
        (map_after_join z.held nc.store)
    joining_after =
        joining_more G (lv P) kids P (λ a h. (let ((j, yet_lives, moved), out) = h in by a j yet_lives moved out
        (j == i) refl)) joining_now
      where
        by : (a : Spot) (j : ℕ) → Lives_yet G (lv P) kids P at k n j → In a (kids k j).moved → NotIn a nc.store.moved
            → (b : Bool) → j == i ≡ b → Away_yet G (lv P) kids P t1 k n a
        by a j y m out true e = absurd (not_both a nc.store.moved
            (subst (λ v. In a v) (sym mo) (subst (λ v. In a (kids k v).moved) (eqb-true j i e) m)) out)
        by a j y m out false e = let apart : j ≢ i = λ f. let x : false ≡ true = sym e ∙ eq-eqb j i f in
            absurd (cc x) in (j, (y.0, other_same j apart ∙ y.1), m)

    abbrev pub memory_after : Memory Plain
    memory_after = record (z.memory) { store = with_map z.memory.store (map_after_join z.held nc.store) }

    -- it goes on to join
    pub joins_on : 1 ≤ left_of G (lv P) kids P t1.condition k n
        → Joined G (lv P) kids P since k n (left_of G (lv P) kids P t1.condition k n) pr t1
        (At z.pc z.stack memory_after)
    joins_on some = record {
      fresh = z.fresh;
      named = z.named;
      js = z.js;
      pc = z.pc;
      stack = z.stack;
      memory = z.memory;
      held = map_after_join z.held nc.store;
      configuration_is = refl;
      joining = joining_after;
      follows = z.follows;
      count = refl;
      some = some;
      there = λ j h. there_still j h;
      children = λ j h. z.children j (still j h).0;
      gone = λ j h a e. get_taken_out nc.store.map nc.store.moved z.held a
          (out_of a nc.store.moved (λ x. z.parted j i (still j h).0 (lt, yet) (still j h).1 a e (in_moved a x)))
          ∙ z.gone j (still j h).0 a e;
      parted = λ a b h g. z.parted a b (still a h).0 (still b g).0;
    }

    -- or it was the last one
    pub runs_on : left_of G (lv P) kids P t1.condition k n ≡ 0
        → ProcessMatches G (lv P) kids P since pr t1.store (At z.pc z.stack memory_after)
    runs_on none = record {
      fresh = z.fresh;
      named = z.named;
      js = z.js;
      pc = z.pc;
      stack = z.stack;
      memory = memory_after;
      configuration_is = refl;
      stand = all_joined G.g G.code pr.who (Named G) (Called G) (λ l. OwnLocation P l ⊎ (lv P).W l)
          (λ l. OwnLocation P l ⊎ (lv P).R l) (lv P).J (lv P).low (length (lv P).below) (lv P).born since G.pause
          (lv P).moved
          (λ a h. (let (j, (below, lives), _) = h in none_lives t1.condition n none j below lives)) joining_after;
      follows = z.follows;
    }
