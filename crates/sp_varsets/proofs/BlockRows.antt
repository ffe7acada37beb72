-- Bodies, declarations and rows of blocks, gathered one block after another.
use Rattle.std.proofs.Common.{◌≡◌, ◌↔◌, ◌⊎◌, ℕ, zero, suc, ◌+◌, ◌<◌, ◌≤◌, true, ◌==◌, ◌||◌, ◌&&◌, List, []}
use Rattle.std.proofs.Common.{◌∷◌, ◌++◌, map, drop, length, get_or, slice_get, refl, sym, ap, subst, ◌∙◌, arith, inl}
use Rattle.std.proofs.Common.{inr, add-one, eqb-true, eq-eqb, Some, None, Bool, false}
use Rattle.std.proofs.lemmas.Bool.{cases_eq, and_from, and_parts, or_cases}
use Rattle.std.proofs.lemmas.List.{length-append}
use Rattle.std.proofs.lemmas.Option.{slice_get_within}
use Rattle.sp_base.proofs.Facts.{or_from_either}
use Rattle.sp_tree.specs.declared.checked.Block as ast_b
use Rattle.sp_tree.specs.PlainChecked as p
use Rattle.sp_tree.specs.CheckedOf.{block_of}
use Rattle.sp_tree.specs.Bare.{bare_statement}
use Rattle.sp_tree.specs.Plain.{Actuals, Program, Block, Variable}
use Rattle.sp_tree.specs.Uses.{Target, Seen, CallOf, Stop, In_stmt}
use Rattle.sp_tree.specs.Sets.{IsBelow}
use Rattle.sp_varsets.specs.declared.bodies.Bodies.{Bodies}
use Rattle.sp_varsets.specs.declared.uses.Uses.{Uses}
use Rattle.sp_varsets.specs.declared.var_set.VarSet.{VarSet}
use Rattle.sp_varsets.specs.Members.{has}
use Rattle.sp_varsets.specs.Paths.{member}
use Rattle.sp_varsets.specs.Bodies.{IsInBlocks, BodyAt, AreBodies, AppendsRows, Declares, AreDeclared}
use Rattle.sp_varsets.proofs.AddedSets.{HasUses, unless_lost}

-- a row put last
pub member_before : (rows : List VarSet) (s : VarSet) (b x : ℕ) → b < length rows
    → member (rows ++ s ∷ []) b x ≡ member rows b x
member_before [] s b x h = absurd (omega arith)
member_before (r ∷ rows) s zero x h = refl
member_before (r ∷ rows) s (suc b) x h = member_before rows s b x (omega arith)

member_after : (rows : List VarSet) (s : VarSet) (x : ℕ) → member (rows ++ s ∷ []) (length rows) x ≡ has s x
member_after [] s x = refl
member_after (r ∷ rows) s x = member_after rows s x

pub member_last : (rows : List VarSet) (s : VarSet) (b x : ℕ) → b ≡ length rows → member (rows ++ s ∷ []) b x ≡ has s x
member_last rows s b x e = ap (λ c. member (rows ++ s ∷ []) c x) e ∙ member_after rows s x

pub length_more : {A : Type 0} (xs : List A) (x : A) → length (xs ++ x ∷ []) ≡ length xs + 1
length_more xs x = length-append xs (x ∷ [])

rows_more : (old : List VarSet) (s : VarSet) (n b x : ℕ) (H : Type 0) → length old ≡ n → b < n → (member old b x ≡ true)
    ↔ H → (member (old ++ s ∷ []) b x ≡ true) ↔ H
rows_more old s n b x H l h f =
    let e = member_before old s b x (omega arith) in
    (λ m. f.0 (sym e ∙ m), λ k. e ∙ f.1 k)

rows_last : (old : List VarSet) (s : VarSet) (n b x : ℕ) (H : Type 0) → length old ≡ n → b ≡ n → (has s x ≡ true) ↔ H
    → (member (old ++ s ∷ []) b x ≡ true) ↔ H
rows_last old s n b x H l h f =
    let e = member_last old s b x (omega arith) in
    (λ m. f.0 (sym e ∙ m), λ k. e ∙ f.1 k)

-- the sets of one more block, unless one could not be put last
pub rows_put : (old : Bodies) (uses : Uses) (targets expressions calls stops : List VarSet) (f1 f2 f3 f4 : Bool)
    → (f1 ≡ false → targets ≡ old.targets ++ uses.targets ∷ [])
    → (f2 ≡ false → expressions ≡ old.expressions ++ uses.expressions ∷ [])
    → (f3 ≡ false → calls ≡ old.calls ++ uses.calls ∷ []) → (f4 ≡ false → stops ≡ old.stops ++ uses.stops ∷ [])
    → AppendsRows old (record {
      targets = targets;
      expressions = expressions;
      calls = calls;
      stops = stops;
      is_lost = ((((old.is_lost || uses.is_lost) || f1) || f2) || f3) || f4;
    }) uses
rows_put old uses targets expressions calls stops f1 f2 f3 f4 r1 r2 r3 r4 = record {
  kept = λ k. let (both, _, _, _, _) = unless_lost old.is_lost uses.is_lost f1 f2 f3 f4 k in both;
  targets = λ k. let (_, e, _, _, _) = unless_lost old.is_lost uses.is_lost f1 f2 f3 f4 k in r1 e;
  expressions = λ k. let (_, _, e, _, _) = unless_lost old.is_lost uses.is_lost f1 f2 f3 f4 k in r2 e;
  calls = λ k. let (_, _, _, e, _) = unless_lost old.is_lost uses.is_lost f1 f2 f3 f4 k in r3 e;
  stops = λ k. let (_, _, _, _, e) = unless_lost old.is_lost uses.is_lost f1 f2 f3 f4 k in r4 e;
}

pub bodies_more : (blocks : List p.Block) (old new : Bodies) (uses : Uses) (k : p.Block) (n : ℕ)
    → AreBodies blocks old n → slice_get blocks n ≡ Some k
    → new.targets ≡ old.targets ++ uses.targets ∷ [] → new.expressions ≡ old.expressions ++ uses.expressions ∷ []
    → new.calls ≡ old.calls ++ uses.calls ∷ [] → new.stops ≡ old.stops ++ uses.stops ∷ []
    → HasUses uses (In_stmt (bare_statement k.body)) → AreBodies blocks new (n + 1)
bodies_more blocks old new uses k n a at ea es er et h = record {
  targets = ap length ea ∙ (length_more old.targets uses.targets ∙ ap (λ m. m + 1) a.targets);
  expressions = ap length es ∙ (length_more old.expressions uses.expressions ∙ ap (λ m. m + 1) a.expressions);
  calls = ap length er ∙ (length_more old.calls uses.calls ∙ ap (λ m. m + 1) a.calls);
  stops = ap length et ∙ (length_more old.stops uses.stops ∙ ap (λ m. m + 1) a.stops);
  each = λ b j low is. elim (cases_eq b n) [
    | inl here ↦
        let same : k ≡ j = (let s : Some k ≡ Some j = sym at ∙ (ap (λ c. slice_get blocks c) (sym here) ∙ is) in cc) in
        subst (λ (z : p.Block). BodyAt new b (In_stmt (bare_statement z.body))) same (last b here)
    | inr away ↦ before b j (omega arith) is
  ];
}
  where
    before : (b : ℕ) (j : p.Block) → b < n → slice_get blocks b ≡ Some j
        → BodyAt new b (In_stmt (bare_statement j.body))
    before b j low is = let o = a.each b j low is in record {
      targets = λ x. subst (λ z. (member z b x ≡ true) ↔ (In_stmt (bare_statement j.body) (Target x))) (sym ea)
          (rows_more old.targets uses.targets n b x (In_stmt (bare_statement j.body) (Target x)) a.targets low
          (o.targets x));
      expressions = λ x. subst (λ z. (member z b x ≡ true) ↔ (In_stmt (bare_statement j.body) (Seen x))) (sym es)
          (rows_more old.expressions uses.expressions n b x (In_stmt (bare_statement j.body) (Seen x)) a.expressions low
          (o.expressions x));
      calls = λ x. subst (λ z. (member z b x ≡ true)
          ↔ ((args : Actuals) × In_stmt (bare_statement j.body) (CallOf x args))) (sym er)
          (rows_more old.calls uses.calls n b x ((args : Actuals) × In_stmt (bare_statement j.body) (CallOf x args))
          a.calls low (o.calls x));
      stops = subst (λ z. (member z b 0 ≡ true) ↔ (In_stmt (bare_statement j.body) Stop)) (sym et)
          (rows_more old.stops uses.stops n b 0 (In_stmt (bare_statement j.body) Stop) a.stops low o.stops);
    }

    last : (b : ℕ) → b ≡ n → BodyAt new b (In_stmt (bare_statement k.body))
    last b here = record {
      targets = λ x. subst (λ z. (member z b x ≡ true) ↔ (In_stmt (bare_statement k.body) (Target x))) (sym ea)
          (rows_last old.targets uses.targets n b x (In_stmt (bare_statement k.body) (Target x)) a.targets here
          (h.targets x));
      expressions = λ x. subst (λ z. (member z b x ≡ true) ↔ (In_stmt (bare_statement k.body) (Seen x))) (sym es)
          (rows_last old.expressions uses.expressions n b x (In_stmt (bare_statement k.body) (Seen x)) a.expressions
          here (h.expressions x));
      calls = λ x. subst (λ z. (member z b x ≡ true)
          ↔ ((args : Actuals) × In_stmt (bare_statement k.body) (CallOf x args))) (sym er)
          (rows_last old.calls uses.calls n b x ((args : Actuals) × In_stmt (bare_statement k.body) (CallOf x args))
          a.calls here (h.calls x));
      stops = subst (λ z. (member z b 0 ≡ true) ↔ (In_stmt (bare_statement k.body) Stop)) (sym et)
          (rows_last old.stops uses.stops n b 0 (In_stmt (bare_statement k.body) Stop) a.stops here h.stops);
    }

-- blocks, item by item
blocks_step : (bs : List ast_b.Block) (i : ℕ) (b : ast_b.Block) → i < length bs → b ≡ get_or bs i b
    → map block_of (drop i bs) ≡ block_of b ∷ map block_of (drop (suc i) bs)
blocks_step [] i b h e = absurd (omega arith)
blocks_step (c ∷ bs) zero b h e = rw (sym e) refl
blocks_step (c ∷ bs) (suc i) b h e = blocks_step bs i b (omega arith) e

pub blocks_on : (bs : List ast_b.Block) (i : ℕ) (b : ast_b.Block) → i < length bs → b ≡ get_or bs i b
    → map block_of (drop i bs) ≡ block_of b ∷ map block_of (drop (i + 1) bs)
blocks_on bs i b h e = subst (λ j. map block_of (drop i bs) ≡ block_of b ∷ map block_of (drop j bs)) (sym (add-one i))
    (blocks_step bs i b h e)

pub blocks_end : (bs : List ast_b.Block) (i : ℕ) → length bs ≤ i → map block_of (drop i bs) ≡ []
blocks_end [] zero h = refl
blocks_end [] (suc i) h = refl
blocks_end (c ∷ bs) zero h = absurd (omega arith)
blocks_end (c ∷ bs) (suc i) h = blocks_end bs i (omega arith)

pub block_at : (bs : List ast_b.Block) (i : ℕ) (b : ast_b.Block) → i < length bs → b ≡ get_or bs i b
    → slice_get (map block_of bs) i ≡ Some (block_of b)
block_at [] i b h e = absurd (omega arith)
block_at (c ∷ bs) zero b h e = ap (λ z. Some (block_of z)) (sym e)
block_at (c ∷ bs) (suc i) b h e = block_at bs i b (omega arith) e

pub in_blocks : (ks : List p.Block) (b : ℕ) (k : p.Block) (t : p.Statement) → slice_get ks b ≡ Some k
    → Rattle.sp_varsets.specs.Parts.IsPart t k.body → IsInBlocks ks t
in_blocks [] b k t e h = absurd (let no : None ≡ Some k = e in cc)
in_blocks (j ∷ ks) zero k t e h =
    let s : Some k ≡ Some j = sym e in
    let same : k ≡ j = cc in
    inl (subst (λ (z : p.Block). Rattle.sp_varsets.specs.Parts.IsPart t z.body) same h)
in_blocks (j ∷ ks) (suc b) k t e h = inr (in_blocks ks b k t e h)

pub of_blocks : (ks : List p.Block) (t : p.Statement) → IsInBlocks ks t → (b : ℕ) × (k : p.Block)
    × (slice_get ks b ≡ Some k) × Rattle.sp_varsets.specs.Parts.IsPart t k.body
of_blocks [] t h = absurd h
of_blocks (j ∷ ks) t (inl h) = (zero, j, refl, h)
of_blocks (j ∷ ks) t (inr h) = let (b, k, at, inside) = of_blocks ks t h in (suc b, k, at, inside)

-- a variable declared
pub in_put : (old mid : List VarSet) (c x : ℕ) → ((b y : ℕ) → member mid b y ≡ ((b == c) && (x == y)) || member old b y)
    → (b y : ℕ) → (member mid b y ≡ true) ↔ ((member old b y ≡ true) ⊎ ((b ≡ c) × (y ≡ x)))
in_put old mid c x e b y = (
  λ h. elim (or_cases ((b == c) && (x == y)) (member old b y) (sym (e b y) ∙ h)) [
    | inl n ↦ (let s = and_parts (b == c) (x == y) n in inr (eqb-true b c s.0, sym (eqb-true x y s.1)))
    | inr o ↦ inl o
  ],
  λ s. e b y ∙ or_from_either ((b == c) && (x == y)) (member old b y)
      (elim s [ inl o ↦ inr o | inr n ↦ inl (and_from (b == c) (x == y) (eq-eqb b c n.0) (eq-eqb x y (sym n.1))) ]),
)

pub declares_none : (g : Program) (rows : List VarSet) (x c : ℕ) → length rows ≡ length g.blocks
    → slice_get g.blocks c ≡ None → Declares g rows rows x c
declares_none g rows x c l none = record {
  rows = refl;
  members = λ b y. (λ h. inl h, λ s. elim s [ inl o ↦ o | inr (_, low, n, below) ↦ absurd (outside b low n below) ]);
}
  where
    outside : (b : ℕ) → b < length rows → (n : ℕ) → IsBelow g n c b → ⊥
    outside b low zero e =
        let i = Rattle.sp_base.proofs.Facts.item_there g.blocks b (omega arith) in
        let no : None ≡ Some i.0 = sym none ∙ (ap (λ z. slice_get g.blocks z) e ∙ i.1) in cc
    outside b low (suc n) (k, e, q, r, s) = let no : None ≡ Some k = sym none ∙ e in cc

pub declares_top : (g : Program) (old mid : List VarSet) (x c : ℕ) (k : Block) → length old ≡ length g.blocks
    → length mid ≡ length old → slice_get g.blocks c ≡ Some k → k.parent ≡ None
    → ((b y : ℕ) → (member mid b y ≡ true) ↔ ((member old b y ≡ true) ⊎ ((b ≡ c) × (y ≡ x)))) → Declares g old mid x c
declares_top g old mid x c k l m at top put = record {
  rows = m;
  members = λ b y. (
    λ h. elim ((put b y).0 h) [
      | inl o ↦ inl o
      | inr n ↦
          (let w = slice_get_within g.blocks c k at in let e = n.0 in inr (n.1, omega arith, zero, sym n.0))
    ],
    λ s. (put b y).1 (elim s [ inl o ↦ inl o | inr (same, _, n, below) ↦ inr (here b n below, same) ]),
  );
}
  where
    here : (b n : ℕ) → IsBelow g n c b → b ≡ c
    here b zero e = sym e
    here b (suc n) (j, e, q, r, s) =
        let same : k ≡ j = (let t : Some k ≡ Some j = sym at ∙ e in cc) in
        let no : None ≡ Some q = sym top ∙ (ap (λ (z : Block). z.parent) same ∙ r) in
        absurd (let t : None ≡ Some q = no in cc)

pub declares_more : (g : Program) (old mid new : List VarSet) (x c q : ℕ) (k : Block) → length old ≡ length g.blocks
    → length mid ≡ length old → slice_get g.blocks c ≡ Some k → k.parent ≡ Some q
    → ((b y : ℕ) → (member mid b y ≡ true) ↔ ((member old b y ≡ true) ⊎ ((b ≡ c) × (y ≡ x)))) → Declares g mid new x q
    → Declares g old new x c
declares_more g old mid new x c q k l m at up put d = record {
  rows = d.rows ∙ m;
  members = λ b y. (
    λ h. elim ((d.members b y).0 h) [
      | inl o ↦ elim ((put b y).0 o) [
        | inl a ↦ inl a
        | inr n ↦
            (let w = slice_get_within g.blocks c k at in let e = n.0 in inr (n.1, omega arith, zero, sym n.0))
      ]
      | inr (same, low, n, below) ↦ inr (same, omega (arith, low), suc n, (k, at, q, up, below))
    ],
    λ s. elim s [
      | inl o ↦ (d.members b y).1 (inl ((put b y).1 (inl o)))
      | inr (same, low, n, below) ↦ found b y same low n below
    ],
  );
}
  where
    found : (b y : ℕ) → y ≡ x → b < length old → (n : ℕ) → IsBelow g n c b → member new b y ≡ true
    found b y i low zero e = (d.members b y).1 (inl ((put b y).1 (inr (sym e, i))))
    found b y i low (suc n) (j, e, r, u, s) =
        let same : k ≡ j = (let t : Some k ≡ Some j = sym at ∙ e in cc) in
        let q_is : r ≡ q = (let t : Some r ≡ Some q = sym u ∙ (ap (λ (z : Block). z.parent) (sym same) ∙ up) in cc) in
        (d.members b y).1 (inr (i, omega arith, n, subst (λ z. IsBelow g n z b) q_is s))

pub declared_more : (g : Program) (old new : List VarSet) (n : ℕ) (i : Variable) → AreDeclared g old n
    → slice_get g.variables n ≡ Some i → Declares g old new n i.block → AreDeclared g new (n + 1)
declared_more g old new n i a at d = record {
  count = d.rows ∙ a.count;
  members = λ b y low. (
    λ h. elim ((d.members b y).0 h) [
      | inl o ↦ (let m = (a.members b y low).0 o in let l = m.0 in (omega arith, m.1))
      | inr (same, _, depth, below) ↦ (
        omega (arith, same),
        (i, ap (λ z. slice_get g.variables z) same ∙ at, depth, below),
      )
    ],
    λ (less, (j, found, depth, below)). elim (cases_eq y n) [
      | inl here ↦
          let same : j ≡ i = (let t : Some j ≡ Some i = sym found
          ∙ (ap (λ z. slice_get g.variables z) here ∙ at) in cc) in
          let count = a.count in
          (d.members b y).1 (inr (
            here,
            omega arith,
            depth,
            subst (λ (z : Variable). IsBelow g depth z.block b) same below,
          ))
      | inr away ↦ (d.members b y).1 (inl ((a.members b y low).1 (omega (arith, less), (j, found, depth, below))))
    ],
  );
}
