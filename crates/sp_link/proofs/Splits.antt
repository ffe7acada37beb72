-- A parallel statement can be carried out: what it hands over is held, nothing is moved twice, and nothing that is
-- moved is shared, since by the rules of interference no two of its processes share what one of them changes
-- (`parallel_split`).
use Rattle.std.proofs.Common.{◌≡◌, ◌⊎◌, inl, inr, ℕ, zero, suc, ◌+◌, ◌<◌, ℤ, List, ◌∷◌, length, Option, Some, None}
use Rattle.std.proofs.Common.{true, refl, sym, ap, ◌∙◌, subst, arith}
use Rattle.std.specs.Prelude.{◌≢◌, IsSome, slice_get}
use Rattle.std.specs.FinMap as fin
use Rattle.std.proofs.lemmas.Option.{none-some}
use Rattle.sp_base.proofs.Facts.{less_more_or_same}
use Rattle.sp_tree.specs.Interference.{IsIndexOf, IsMember, KeepsI1}
use Rattle.sp_tree.specs.Plain.{Program, Variable, Stmt, Stmts, No, And, Parallel}
use Rattle.sp_tree.specs.Sets.{IsTarget, IsUsed}
use Rattle.sp_tree.specs.Uses.{Use, Target, Seen, ParallelOf, In_stmt, In_stmts}
use Rattle.sp_cell.specs.declared.spot.Spot.{Spot}
use Rattle.sp_cell.specs.declared.spot.Handing.{Handing}
use Rattle.sp_cell.specs.Fork.{shared_of}
use Rattle.sp_cell.specs.Map.{Content, Output as Bytes, Plain, IsHeld, IsPiece}
use Rattle.sp_cell.specs.Spots.{In, IsDistinct}
use Rattle.sp_meaning.specs.Model.{Name}
use Rattle.sp_meaning.specs.LocalWork.{Loc, Input, Output, LocalState, Identity}
use Rattle.sp_meaning.specs.Run.{Store}
use Rattle.sp_meaning.proofs.Rights.{OwnLocation}
use Rattle.sp_tree.proofs.Closure.{target_part, used_part}
use Rattle.sp_meaning.proofs.SoundParts.{list_of}
use Rattle.sp_code.specs.declared.code.ChildTable.{ChildTable}
use Rattle.sp_code.specs.declared.code.ForkTable.{ForkTable}
use Rattle.sp_code.specs.TreeCode.{child_table, children_tables}
use Rattle.sp_code.specs.Memory.{Memory}
use Rattle.sp_code.specs.Places.{after_statement}
use Rattle.sp_code.specs.Scopes.{Scope}
use Rattle.sp_code.specs.Sound.{CanSplit}
use Rattle.sp_code.specs.CodeOfTree.{CodeAt as StandsIn, HasFork, HasWords, ChildrenAt}
use Rattle.sp_code.specs.System.{spot_of, handing_of, plan_from, child_or}
use Rattle.sp_code.specs.Tables.{child_at}
use Rattle.sp_codegen.specs.FramePairs.{FramePair, sources, pairs_from}
use Rattle.sp_codegen.specs.Relation.{Placed}
use Rattle.sp_codegen.proofs.ChildIndexes.{table_at}
use Rattle.sp_codegen.proofs.HandedUses.{MovedStands, moved_stands, right_of, once}
use Rattle.sp_codegen.proofs.Owners.{no_longer_owner}
use Rattle.sp_link.proofs.ChildrenStand.{reached_formed, consoles}
use Rattle.sp_code.proofs.Plans.{in_spots, spots_from, out_of, distinct_spots, moved_by, shared_by, distinct_plan}
use Rattle.sp_code.proofs.Plans.{index_by}
use Rattle.sp_code.proofs.StoreLaws.{held_of_cells}
use Rattle.sp_link.proofs.Relation.{RunContext, BirthRights, Called, Named, Fresh, St}
use Rattle.sp_link.proofs.DeclaredUses.{parts_scoped}
use Rattle.sp_link.proofs.Newborns.{cons}

-- ---- contents

pub bytes_held : (c : Option Content) (bs : List ℕ) → c ≡ Some (Bytes bs) → IsHeld c
bytes_held c bs e = subst (λ x. IsHeld x) (sym e) tt

-- ---- uses of a part

pub inside : (ss : Stmts) (j : ℕ) (st : Stmt) → slice_get (list_of ss) j ≡ Some st → (u : Use) → In_stmt st u
    → In_stmts ss u
inside No j st e u a = absurd (cc e)
inside (And s rest) zero st e u a = let same : s ≡ st = cc e in inl (subst (λ b. In_stmt b u) (sym same) a)
inside (And s rest) (suc j) st e u a = inr (inside rest j st e u a)

-- what one process changes no later one uses, and no later one changes what it uses
parts_apart : (p : Program) (ss : Stmts) → KeepsI1 p ss → (j k : ℕ) (a b : Stmt) → j < k
    → slice_get (list_of ss) j ≡ Some a → slice_get (list_of ss) k ≡ Some b
    → (x : ℕ) → (IsTarget p (In_stmt a) x → IsUsed p (In_stmt b) x → ⊥)
    × (IsUsed p (In_stmt a) x → IsTarget p (In_stmt b) x → ⊥)
parts_apart p No i j k a b lt e f x = absurd (cc e)
parts_apart p (And s rest) i zero zero a b lt e f x = absurd (omega (arith, lt))
parts_apart p (And s rest) i zero (suc k) a b lt e f x =
    let same : s ≡ a = cc e in (
      λ h g. i.0 x (subst (λ z. IsTarget p (In_stmt z) x) (sym same) h) (used_part p (inside rest k b f) x g),
      λ h g. i.1 x (subst (λ z. IsUsed p (In_stmt z) x) (sym same) h) (target_part p (inside rest k b f) x g),
    )
parts_apart p (And s rest) i (suc j) zero a b lt e f x = absurd (omega (arith, lt))
parts_apart p (And s rest) i (suc j) (suc k) a b lt e f x = parts_apart p rest i.2 j k a b (omega (arith, lt)) e f x

-- which statement and which table child j has
table_of : (p : Program) (moves shares : Stmt → List ℕ) (ss : Stmts) (q j : ℕ)
    → j < length (children_tables p moves shares q ss)
    → (st : Stmt) × (slice_get (list_of ss) j ≡ Some st) × (entry : ℕ)
    × (slice_get (children_tables p moves shares q ss) j ≡ Some (child_table p moves shares entry None st))
table_of p moves shares No q j lt = absurd (omega (arith, lt))
table_of p moves shares (And s rest) q zero lt = (s, refl, q, refl)
table_of p moves shares (And s rest) q (suc j) lt =
    table_of p moves shares rest (after_statement p q s + 1) j (omega (arith, lt))

same_role : (i v : Variable) → Some i ≡ Some v → i.role ≡ Rattle.sp_tree.specs.declared.checked.Role.TheVariants.Index
    → v.role ≡ Rattle.sp_tree.specs.declared.checked.Role.TheVariants.Index
same_role i v e h = let same : i ≡ v = cc e in ap (λ (y : Variable). y.role) (sym same) ∙ h

module _ (G : RunContext) (lf : BirthRights) (kids : ℕ → ℕ → BirthRights) (q : Name) where
  abbrev Wr : Loc → Type 0
  Wr l = OwnLocation q l ⊎ lf.W l

  abbrev Rd : Loc → Type 0
  Rd l = OwnLocation q l ⊎ lf.R l

  module _ (f : Fresh G lf kids q) {w : Identity} {since : ℕ} {js : List FramePair} {o : LocalState} {s : Store}
      {n : Memory Plain}
      (t : St G lf kids q w since js o s n)
      (ss : Stmts) (sc : List Scope) (pl : Placed G.g Wr Rd lf.J sc js (In_stmt (Parallel ss))) (first : ℕ)
      (stand : ChildrenAt G.g.program G.moves G.shares (StandsIn G.code) (HasFork G.code) (HasWords G.code) G.callable
      true sc first ss) (value : ℤ) where
    abbrev p : Program
    p = G.g.program

    -- the statement as a whole, and a table that hands all of it over
    abbrev whole : Stmt
    whole = Parallel ss

    abbrev table : ChildTable
    table = child_table p G.moves G.shares 0 None whole

    abbrev child : Name
    child = cons (0, 0) w.name

    new_name : (h : ℕ) (j : FramePair) (rest : List FramePair) → pairs_from (suc h) js ≡ j ∷ rest
        → j.source.owner ≡ child → ⊥
    new_name = no_longer_owner (length w.name) js child t.frames.owners (omega arith)

    unread : IsUsed p (In_stmt whole) 1 → IsTarget p (In_stmt whole) 1
    unread (inl a) = a
    unread (inr a) = absurd (reached_formed G a.0 pl.formed (Seen 1) a.1 refl)

    declared : (y : ℕ) → IsTarget p (In_stmt whole) y → (v : Variable) × (slice_get p.variables y ≡ Some v)
    declared y a = let h = reached_formed G a.0 pl.formed (Target y) a.1 in (h.0, h.1)

    no_index_aimed : (y : ℕ) → IsIndexOf p y → IsTarget p (In_stmt whole) y → ⊥
    no_index_aimed y i a = let h = reached_formed G a.0 pl.formed (Target y) a.1 in
        h.2 (same_role i.0 h.0 (sym i.1 ∙ h.1) i.2)

    -- two variables with one spot are one
    one_used : (y z : ℕ) → IsTarget p (In_stmt whole) y → IsUsed p (In_stmt whole) z → (a : Spot)
        → spot_of G.code.layouts n.frames y ≡ Some a → spot_of G.code.layouts n.frames z ≡ Some a → y ≡ z
    one_used y z ay az a e g = once G.g G.code w (Named G) (Called G) Wr Rd lf.J lf.low (length lf.below) lf.born since
        G.pause lf.moved G.formed G.laid G.free f.reads G.moves G.shares G.sets t whole pl.sound unread child new_name
        table refl refl value 0
        (consoles G lf kids q) sc pl.chain (λ x up own b. pl.indexes x up b)
        (λ x b own. parts_scoped G true sc first ss stand pl.formed x b)
        y z (inl ay) az (λ i. no_index_aimed y i ay) (none-some y) (none-some z) a
        (ap (λ fs. spot_of G.code.layouts fs y) (sym t.frames.machines_are) ∙ e)
        (ap (λ fs. spot_of G.code.layouts fs z) (sym t.frames.machines_are) ∙ g)

    right : (l : Loc) (y : ℕ) → IsUsed p (In_stmt whole) y
        → Rattle.sp_meaning.specs.Rights.location_of p (sources js) y ≡ Some l → Rd l
    right l y a e = right_of G.g G.code w (Named G) (Called G) Wr Rd lf.J lf.low (length lf.below) lf.born since G.pause
        lf.moved G.formed G.laid G.free f.reads G.moves G.shares G.sets t whole pl.sound unread child new_name table
        refl refl value 0 l y a e

    -- what a part changes is held
    changed_held : (y : ℕ) → IsTarget p (In_stmt whole) y → (a : Spot) → spot_of G.code.layouts n.frames y ≡ Some a
        → IsHeld (fin.get n.store.map a)
    changed_held y ay a e = by (moved_stands G.g G.code w (Named G) (Called G) Wr Rd lf.J lf.low (length lf.below)
        lf.born since G.pause lf.moved G.formed G.laid G.free f.reads G.moves G.shares G.sets t whole pl.sound unread
        child new_name table refl refl value 0
        (consoles G lf kids q) no_index_aimed declared a
        (in_spots G.code.layouts n.frames (G.moves whole) y a (G.sets.moved whole y ay) e))
      where
        by : MovedStands G.g G.code w (Named G) (Called G) Wr Rd lf.J lf.low (length lf.below) lf.born since G.pause
            lf.moved G.formed G.laid G.free f.reads G.moves G.shares G.sets t whole pl.sound unread child new_name table
            refl refl value 0 a → IsHeld (fin.get n.store.map a)
        by (inl (spot_is, (variable, target, stood))) = let z = t.position (right Input variable (inl target) stood) in
            subst (λ c. IsHeld (fin.get n.store.map c)) (sym spot_is) (held_of_cells _ _ z.2)
        by (inr (inl (spot_is, (variable, target, stood)))) =
            let z = t.output (right Output variable (inl target) stood) in
            subst (λ c. IsHeld (fin.get n.store.map c)) (sym spot_is) (bytes_held _ _ z.2)
        by (inr (inr (owner, number, variable, live, _, may, spot_is))) = let z =
            t.held owner number variable live may in
            subst (λ c. IsHeld (fin.get n.store.map c)) (sym spot_is) (held_of_cells _ _ z.piece)

    -- ---- the plan

    abbrev pub tb : ForkTable
    tb = record { children = children_tables p G.moves G.shares first ss }

    abbrev pub count : ℕ
    count = length (children_tables p G.moves G.shares first ss)

    abbrev pub child_handing : ℕ → Handing
    child_handing j = handing_of G.code.layouts n.frames value j (child_or (child_at tb j))

    abbrev pub plan : List Handing
    plan = plan_from G.code.layouts n.frames tb value 0 count

    -- child j: its statement
    abbrev IsPart : ℕ → Stmt → Type 0
    IsPart j st = slice_get (list_of ss) j ≡ Some st

    part_of : (j : ℕ) → j < count → (st : Stmt) × IsPart j st
        × ((entry : ℕ) × (child_handing j ≡ handing_of G.code.layouts n.frames value j
        (child_table p G.moves G.shares entry None st)))
    part_of j lt =
        let (st, st_is, entry, table_is) = table_of p G.moves G.shares ss first j lt in (
          st,
          st_is,
          (
            entry,
            ap (λ x. handing_of G.code.layouts n.frames value j (child_or x))
                (table_at p G.moves G.shares ss first j ∙ table_is),
          ),
        )

    aims : (j : ℕ) (st : Stmt) → IsPart j st → (x : ℕ) → IsTarget p (In_stmt st) x → IsTarget p (In_stmt whole) x
    aims j st e x h = target_part p (λ u a. inr (inl (inside ss j st e u a))) x h

    uses : (j : ℕ) (st : Stmt) → IsPart j st → (x : ℕ) → IsUsed p (In_stmt st) x → IsUsed p (In_stmt whole) x
    uses j st e x h = used_part p (λ u a. inr (inl (inside ss j st e u a))) x h

    -- a spot that moves to child j, and one that it shares
    abbrev Changes : ℕ → Spot → Type 0
    Changes j a = (st : Stmt) × IsPart j st × (y : ℕ) × IsTarget p (In_stmt st) y × IsMember y (G.moves st)
        × (spot_of G.code.layouts n.frames y ≡ Some a)

    abbrev Uses : ℕ → Spot → Type 0
    Uses j a = (st : Stmt) × IsPart j st × (y : ℕ) × IsUsed p (In_stmt st) y × IsMember y (G.shares st)
        × (spot_of G.code.layouts n.frames y ≡ Some a)

    changes : (j : ℕ) → j < count → (a : Spot) → In a (child_handing j).moved → Changes j a
    changes j lt a h =
        let (st, st_is, (_, handing_is)) = part_of j lt in
        let y = spots_from G.code.layouts n.frames (G.moves st) a (subst (λ (x : Handing). In a x.moved) handing_is h)
        in
        (st, st_is, y.0, G.sets.moved_only st y.0 y.1, y.1, y.2)

    shares_it : (j : ℕ) → j < count → (a : Spot) → In a (child_handing j).shared → Uses j a
    shares_it j lt a h =
        let (st, st_is, (_, handing_is)) = part_of j lt in
        let y = spots_from G.code.layouts n.frames (G.shares st) a
        (subst (λ (x : Handing). In a x.shared) handing_is h) in
        (st, st_is, y.0, G.sets.shared_only st y.0 y.1, y.1, y.2)

    rules : KeepsI1 p ss
    rules = pl.sound.kept (ParallelOf ss) (inl refl)

    one_part : (j : ℕ) (a b : Stmt) → IsPart j a → IsPart j b → a ≡ b
    one_part j a b e g = let z : Some a ≡ Some b = sym e ∙ g in cc z

    -- a spot that moves to one child moves to no other
    moves_apart : (j k : ℕ) (a : Spot) → j < k → Changes j a → Changes k a → ⊥
    moves_apart j k a lt (st, st_is, variable, aimed, _, spot_is)
        (st_too, st_too_is, variable_too, aimed_too, _, spot_too) =
        let y = one_used variable variable_too (aims j st st_is variable aimed)
        (inl (aims k st_too st_too_is variable_too aimed_too)) a spot_is spot_too in
        (parts_apart p ss rules j k st st_too lt st_is st_too_is variable).0 aimed
        (inl (subst (λ x. IsTarget p (In_stmt st_too) x) (sym y) aimed_too))

    -- and none shares it
    unshared : (j k : ℕ) (a : Spot) → Changes j a → Uses k a → ⊥
    unshared j k a (st, st_is, variable, aimed, listed, spot_is)
        (st_too, st_too_is, variable_too, aimed_too, listed_too, spot_too) =
        let y = one_used variable variable_too (aims j st st_is variable aimed)
        (uses k st_too st_too_is variable_too aimed_too) a spot_is spot_too in
        let used : IsUsed p (In_stmt st_too) variable = subst (λ x. IsUsed p (In_stmt st_too) x) (sym y) aimed_too in
        by y used (less_more_or_same j k)
      where
        by : variable ≡ variable_too → IsUsed p (In_stmt st_too) variable → (j < k) ⊎ ((k < j) ⊎ (j ≡ k)) → ⊥
        by y used (inl lt) = (parts_apart p ss rules j k st st_too lt st_is st_too_is variable).0 aimed used
        by y used (inr (inl lt)) = (parts_apart p ss rules k j st_too st lt st_too_is st_is variable).1 used aimed
        by y used (inr (inr e)) =
            let same : st ≡ st_too = one_part k st st_too (subst (λ x. IsPart x st) e st_is) st_too_is in
            G.sets.apart st_too variable (subst (λ x. IsMember variable (G.moves x)) same listed)
            (subst (λ x. IsMember x (G.shares st_too)) (sym y) listed_too)

    pub parallel_split : ((a : Spot) → In a (shared_of plan) → IsPiece (fin.get n.store.map a)) → CanSplit n.store plan
    parallel_split pieces = record {
      held = λ a h. (let m = moved_by G.code.layouts n.frames tb value count a h in
          let (st, st_is, variable, aimed, _, spot_is) = changes m.0 m.1 a m.2 in
          changed_held variable (aims m.0 st st_is variable aimed) a spot_is);
      pieces = pieces;
      distinct = distinct_plan G.code.layouts n.frames tb value count
          (λ j lt. (let (st, st_is, (_, handing_is)) = part_of j lt in
          subst (λ (x : Handing). IsDistinct x.moved) (sym handing_is)
          (distinct_spots G.code.layouts n.frames (G.moves st) (G.sets.moved_once st)
          (λ y z a i k e g. one_used y z (aims j st st_is y (G.sets.moved_only st y i))
          (inl (aims j st st_is z (G.sets.moved_only st z k))) a e g))))
          (λ j k a l lt c d. moves_apart j k a l (changes j (omega (arith, l, lt)) a c) (changes k lt a d));
      apart = λ a h. out_of a (shared_of plan)
          (λ i. (let m = moved_by G.code.layouts n.frames tb value count a h in
          let r = shared_by G.code.layouts n.frames tb value count a i in
          unshared m.0 r.0 a (changes m.0 m.1 a m.2) (shares_it r.0 r.1 a r.2)));
      number = λ h. (let r = index_by G.code.layouts n.frames tb value count h in
          let (_, _, (_, handing_is)) = part_of r.0 r.1 in
          absurd (no_index (child_handing r.0).index (ap (λ (x : Handing). x.index) handing_is) r.2));
    }
      where
        no_index : (i : Option (ℕ × ℤ)) → i ≡ None → IsSome i → ⊥
        no_index None e h = absurd (cc h)
        no_index (Some x) e h = absurd (cc e)

    -- and what moves to two children differs
    pub parts_differ : (j k : ℕ) → j < count → k < count → j ≢ k → (a : Spot) → In a (child_handing j).moved
        → In a (child_handing k).moved
        → ⊥
    parts_differ j k lj lk ne a h g = by (less_more_or_same j k)
      where
        by : (j < k) ⊎ ((k < j) ⊎ (j ≡ k)) → ⊥
        by (inl lt) = moves_apart j k a lt (changes j lj a h) (changes k lk a g)
        by (inr (inl lt)) = moves_apart k j a lt (changes k lk a g) (changes j lj a h)
        by (inr (inr e)) = ne e
