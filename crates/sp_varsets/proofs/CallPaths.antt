-- What rows lead to is what paths of calls reach.
use Rattle.std.proofs.Common.{◌≡◌, ◌↔◌, ℕ, zero, suc, ◌<◌, true, false, not, ◌&&◌, List, [], ◌∷◌, map, length}
use Rattle.std.proofs.Common.{slice_get, refl, sym, subst, ◌∙◌, inl, inr, Some, None}
use Rattle.std.proofs.lemmas.Option.{slice_get_within}
use Rattle.std.proofs.lemmas.Bool.{false_from_ne_true}
use Rattle.sp_base.proofs.Facts.{and_not_from, and_not_parts, get_of_map, item_there}
use Rattle.sp_tree.specs.PlainChecked as p
use Rattle.sp_tree.specs.Bare.{bare_statement, bare_block, without_places}
use Rattle.sp_tree.specs.Plain.{Actuals, Program, Block}
use Rattle.sp_tree.specs.Uses.{Use, CallOf, In_stmt}
use Rattle.sp_tree.specs.Sets.{IsFree, IsUseOfCallers}
use Rattle.sp_tree.proofs.Closure.{IsReached}
use Rattle.sp_tree.proofs.CallClosure.{OfBlock, IsClosedUnderCalls, all_of_block, step_here, step_call, of_part}
use Rattle.sp_tree.proofs.CallClosure.{from_part}
use Rattle.sp_varsets.specs.declared.bodies.Bodies.{Bodies}
use Rattle.sp_varsets.specs.declared.var_set.VarSet.{VarSet}
use Rattle.sp_varsets.specs.Bodies.{AreBodies, AreDeclared}
use Rattle.sp_varsets.specs.Paths.{member, PathLeads, Closes}
use Rattle.sp_varsets.specs.Records.{pool_has}
use Rattle.sp_varsets.specs.Totals.{IsInTotal}
use Rattle.sp_varsets.proofs.Paths.{within_rows}

-- items of a mapped list
pub map_at : {A B : Type 0} (f : A → B) (xs : List A) (i : ℕ) (y : B) → slice_get (map f xs) i ≡ Some y → (x : A)
    × (slice_get xs i ≡ Some x) × (f x ≡ y)
map_at f [] i y e = absurd (let no : None ≡ Some y = e in cc)
map_at f (x ∷ xs) zero y e = (x, refl, let s : Some (f x) ≡ Some y = e in cc)
map_at f (x ∷ xs) (suc i) y e = map_at f xs i y e

module _ (g : Program) (u : Use) (x : ℕ) (rows calls hidden : List VarSet) where
  -- the rows, the calls and what is hidden are those of the blocks
  pub record AreRowsOfBlocks : Type 0 where
    pub rows_of : (b : ℕ) → member rows b x ≡ true → (k : Block) × (slice_get g.blocks b ≡ Some k)
        × IsUseOfCallers g b u
        × In_stmt k.body u
    pub rows_in : (b : ℕ) (k : Block) → slice_get g.blocks b ≡ Some k → IsUseOfCallers g b u → In_stmt k.body u
        → member rows b x ≡ true
    pub calls_of : (b c : ℕ) → member calls b c ≡ true → (k : Block) × (slice_get g.blocks b ≡ Some k)
        × (args : Actuals)
        × In_stmt k.body (CallOf c args)
    pub calls_in : (b c : ℕ) (k : Block) (args : Actuals) → slice_get g.blocks b ≡ Some k
        → In_stmt k.body (CallOf c args) → member calls b c ≡ true
    pub hidden_of : (b : ℕ) (k : Block) → slice_get g.blocks b ≡ Some k → member hidden b x ≡ false
        → IsUseOfCallers g b u
    pub hidden_in : (b : ℕ) (k : Block) → slice_get g.blocks b ≡ Some k → IsUseOfCallers g b u
        → member hidden b x ≡ false

  leads_to : AreRowsOfBlocks → (cs : List ℕ) (b : ℕ) → PathLeads rows calls hidden cs b x → OfBlock g b u
  leads_to f [] b h = let (k, at, passes, uses) = f.rows_of b h in step_here g b k u at passes uses
  leads_to f (c ∷ cs) b (run, hide, l) = let (k, at, args, runs) = f.calls_of b c run in
      step_call g b c k args u at (f.hidden_of b k at hide) runs (leads_to f cs c l)

  abbrev Claim : ℕ → Use → Type 0
  Claim b v = v ≡ u → (cs : List ℕ) × PathLeads rows calls hidden cs b x

  claims_closed : AreRowsOfBlocks → IsClosedUnderCalls g Claim
  claims_closed f b k e v passes = (
    λ h i. ([], f.rows_in b k e (subst (λ w. IsUseOfCallers g b w) i passes) (subst (λ w. In_stmt k.body w) i h)),
    λ c args h claim i. let l = claim i in (
      c ∷ l.0,
      (f.calls_in b c k args e h, f.hidden_in b k e (subst (λ w. IsUseOfCallers g b w) i passes), l.1),
    ),
  )

  to_leads : AreRowsOfBlocks → (b : ℕ) → OfBlock g b u → (cs : List ℕ) × PathLeads rows calls hidden cs b x
  to_leads f b o = all_of_block g Claim (claims_closed f) b u o refl

  pub closed_is : AreRowsOfBlocks → (new : List VarSet) → Closes calls hidden rows new → (b : ℕ)
      → (member new b x ≡ true)
      ↔ OfBlock g b u
  closed_is f new c b = (
    λ h. let l = (c.members b x).0 h in leads_to f l.0 b l.1,
    λ o. (c.members b x).1 (to_leads f b o),
  )

-- what is declared and what is free
pub free_of : (g : Program) (rows : List VarSet) (b x : ℕ) → AreDeclared g rows (length g.variables)
    → b < length g.blocks → member rows b x ≡ false → IsFree g b x
free_of g rows b x d within h i e n below =
    let yes = (d.members b x within).1 (slice_get_within g.variables x i e, (i, e, n, below)) in
    let no : false ≡ true = sym h ∙ yes in cc

pub free_in : (g : Program) (rows : List VarSet) (b x : ℕ) → AreDeclared g rows (length g.variables)
    → b < length g.blocks → IsFree g b x → member rows b x ≡ false
free_in g rows b x d within f = false_from_ne_true (member rows b x)
    (λ h. let (_, (i, at, n, below)) = (d.members b x within).0 h in f i at n below)

module _ (c : p.Program) (bodies : Bodies) (hidden rows own : List VarSet) (u : Use) (x : ℕ) where
  -- rows of what stands in the blocks' own statement parts
  pub fits : AreBodies c.blocks bodies (length c.blocks)
      → length own ≡ length c.blocks
      → ((b : ℕ) (k : p.Block) → slice_get c.blocks b ≡ Some k → (member own b x ≡ true)
      ↔ In_stmt (bare_statement k.body) u)
      → ((b : ℕ) → member rows b x ≡ member own b x && not (member hidden b x))
      → ((b : ℕ) → b < length c.blocks → member hidden b x ≡ false → IsUseOfCallers (without_places c) b u)
      → ((b : ℕ) → b < length c.blocks → IsUseOfCallers (without_places c) b u → member hidden b x ≡ false)
      → AreRowsOfBlocks (without_places c) u x rows bodies.calls hidden
  fits bs count own_is shown passes hides = record {
    rows_of = λ b h.
        let s = and_not_parts (member own b x) (member hidden b x) (sym (shown b) ∙ h) in
        let inside : b < length c.blocks = subst (λ n. b < n) count (within_rows own b x s.0) in
        let k = item_there c.blocks b inside in
        (bare_block k.0, get_of_map bare_block c.blocks b k.0 k.1, passes b inside s.1, (own_is b k.0 k.1).0 s.0);
    rows_in = λ b k e f h.
        let m = map_at bare_block c.blocks b k e in
        let inside : b < length c.blocks = slice_get_within c.blocks b m.0 m.1 in
        shown b ∙ and_not_from (member own b x) (member hidden b x)
        ((own_is b m.0 m.1).1 (subst (λ (z : Block). In_stmt z.body u) (sym m.2) h)) (hides b inside f);
    calls_of = λ b f h.
        let inside : b < length c.blocks = subst (λ n. b < n) bs.calls (within_rows bodies.calls b f h) in
        let k = item_there c.blocks b inside in
        let at = bs.each b k.0 inside k.1 in
        let r = (at.calls f).0 h in
        (bare_block k.0, get_of_map bare_block c.blocks b k.0 k.1, r.0, r.1);
    calls_in = λ b f k args e h.
        let m = map_at bare_block c.blocks b k e in
        let inside : b < length c.blocks = slice_get_within c.blocks b m.0 m.1 in
        let at = bs.each b m.0 inside m.1 in
        (at.calls f).1 (args, subst (λ (z : Block). In_stmt z.body (CallOf f args)) (sym m.2) h);
    hidden_of = λ b k e h. let m = map_at bare_block c.blocks b k e in passes b (slice_get_within c.blocks b m.0 m.1) h;
    hidden_in = λ b k e f. let m = map_at bare_block c.blocks b k e in hides b (slice_get_within c.blocks b m.0 m.1) f;
  }

-- the set of a part, from what stands in it and the rows of the blocks that it calls
pub total_is : (g : Program) (Here : Use → Type 0) (u : Use) (pool rows : List VarSet) (own calls x : ℕ)
    → ((pool_has pool own x ≡ true) ↔ Here u) → ((f : ℕ) → (pool_has pool calls f ≡ true)
    ↔ ((args : Actuals) × Here (CallOf f args)))
    → ((f : ℕ) → (member rows f x ≡ true) ↔ OfBlock g f u)
    → IsInTotal pool rows own calls x ↔ IsReached g Here u
total_is g Here u pool rows own calls x here called reach = (
  λ h. elim h [
    | inl o ↦ from_part g Here u (inl (here.0 o))
    | inr t ↦ (let a = (called t.0).0 t.1 in from_part g Here u (inr (t.0, a.0, a.1, (reach t.0).0 t.2)))
  ],
  λ r. elim (of_part g Here u r) [
    | inl h ↦ inl (here.1 h)
    | inr (f, args, runs, reaches) ↦ inr (f, (called f).1 (args, runs), (reach f).1 reaches)
  ],
)
