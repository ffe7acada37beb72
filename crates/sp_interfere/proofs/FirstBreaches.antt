-- The walk finds the first of all rules that tests on the sets say are broken.
use Rattle.std.proofs.Common.{◌≡◌, ◌⊎◌, inl, inr, ℕ, zero, suc, ◌+◌, Bool, true, false, ◌&&◌, ◌==◌, List, [], ◌∷◌, ◌++◌}
use Rattle.std.proofs.Common.{length, Option, Some, None, slice_get, refl, sym, ap, subst, arith}
use Rattle.std.specs.List.{list_any}
use Rattle.sp_base.specs.declared.place.Place.{Place}
use Rattle.sp_base.specs.declared.halt.Refusal.{Refusal}
use Rattle.sp_base.specs.declared.rule.Rule.{Rule}
use Rattle.sp_base.specs.declared.rule.Rule.TheVariants as rule
use Rattle.sp_tree.specs.declared.checked.Variable as declared
use Rattle.sp_tree.specs.PhaseResults.{FirstRefusal, refusal_if, earlier_refusal}
use Rattle.sp_tree.specs.PlainChecked.{Actuals, Nothing, Pass, ByValue, ByReference, Entire, Statements}
use Rattle.sp_tree.specs.PlainChecked.{NoStatement, AndThen, Block, Program}
use Rattle.sp_tree.specs.Sites.{Site, SplitsAt, SpreadsAt, LoopsAt, CallsAt, StopsAt, statement_sites}
use Rattle.sp_tree.specs.Interferes.{IsSite, place_of}
use Rattle.sp_varsets.specs.declared.sets.Sets.{Sets}
use Rattle.sp_varsets.specs.Members.{has}
use Rattle.sp_varsets.specs.Parts.{number_of}
use Rattle.sp_varsets.specs.AreSets.{targets_of, implicit_targets_of, stops_of}
use Rattle.sp_interfere.specs.Tests.{some_in, is_any, clash, has_implicit, has_declared}
use Rattle.sp_interfere.specs.Rules as r
use Rattle.sp_interfere.specs.Walk.{statement_first}
use Rattle.sp_interfere.proofs.Along.{along, statement_along}
use Rattle.sp_interfere.proofs.FindsFirst.{Finds, finds_none, finds_both, finds_as, finds_one}

abbrev pub refusal : Rule → Place → Refusal
refusal R at = record { rule = R; at = at }

-- the rule is broken here by a test
abbrev pub Broken : Rule → Place → Bool → Refusal → Type 0
Broken R at b x = (b ≡ true) × (x ≡ refusal R at)

broken_to : (R : Rule) (at : Place) (b : Bool) (x : Refusal) → refusal_if R at b ≡ Some x → Broken R at b x
broken_to R at true x e = (refl, cc e)
broken_to R at false x e = absurd (cc e)

broken_from : (R : Rule) (at : Place) (b : Bool) (x : Refusal) → Broken R at b x → refusal_if R at b ≡ Some x
broken_from R at true x h = ap Some (sym h.1)
broken_from R at false x h = absurd (cc (h.0))

pub finds_if : (R : Rule) (at : Place) (b : Bool) → Finds (λ g. earlier_refusal g (refusal_if R at b)) (Broken R at b)
finds_if R at b = finds_as (λ g. refl) (broken_to R at b) (broken_from R at b) (finds_one (refusal_if R at b))

-- what is found along sites
pub finds_along : (f : Site → FirstRefusal → FirstRefusal) (P : Site → Refusal → Type 0)
    → ((site : Site) → Finds (f site) (P site))
    → (sites : List Site) → Finds (along f sites) (λ x. (site : Site) × IsSite site sites × P site x)
finds_along f P each [] = finds_as (λ g. refl) (λ x h. absurd h) (λ x h. absurd h.1) finds_none
finds_along f P each (y ∷ ys) = finds_as (λ g. refl) to from (finds_both (each y) (finds_along f P each ys))
  where
    to : (x : Refusal) → P y x ⊎ ((site : Site) × IsSite site ys × P site x) → (site : Site) × IsSite site (y ∷ ys)
        × P site x
    to x (inl h) = (y, inl refl, h)
    to x (inr (site, i, h)) = (site, inr i, h)

    from : (x : Refusal) → (site : Site) × IsSite site (y ∷ ys) × P site x → P y x
        ⊎ ((site : Site) × IsSite site ys × P site x)
    from x (site, inl e, h) = inl (subst (λ z. P z x) e h)
    from x (site, inr i, h) = inr (site, i, h)

module _ (s : Sets) where
  abbrev pub Clashed : List ℕ → Statements → Refusal → Type 0
  Clashed earlier NoStatement x = ⊥
  Clashed earlier (AndThen t rest) x = Broken rule.I1 (place_of t) (list_any (λ m. clash s m (number_of t)) earlier) x
      ⊎ Clashed (earlier ++ number_of t ∷ []) rest x

  finds_clashed : (earlier : List ℕ) (parts : Statements)
      → Finds (r.parts_first s earlier parts) (Clashed earlier parts)
  finds_clashed earlier NoStatement = finds_none
  finds_clashed earlier (AndThen t rest) = finds_both
      (finds_if rule.I1 (place_of t) (list_any (λ m. clash s m (number_of t)) earlier))
      (finds_clashed (earlier ++ number_of t ∷ []) rest)

  abbrev pub Repeated : List ℕ → Actuals → Refusal → Type 0
  Repeated earlier Nothing x = ⊥
  Repeated earlier (Pass (ByValue e) rest) x = Repeated earlier rest x
  Repeated earlier (Pass (ByReference (Entire y at ss)) rest) x = Broken rule.I4 at (list_any (λ z. y == z) earlier) x
      ⊎ Repeated (earlier ++ y ∷ []) rest x

  finds_repeated : (earlier : List ℕ) (args : Actuals) → Finds (r.repeats_first s earlier args) (Repeated earlier args)
  finds_repeated earlier Nothing = finds_none
  finds_repeated earlier (Pass (ByValue e) rest) = finds_repeated earlier rest
  finds_repeated earlier (Pass (ByReference (Entire y at ss)) rest) =
      finds_both (finds_if rule.I4 at (list_any (λ z. y == z) earlier)) (finds_repeated (earlier ++ y ∷ []) rest)

  abbrev pub PassesImplicitly : ℕ → Actuals → Refusal → Type 0
  PassesImplicitly f Nothing x = ⊥
  PassesImplicitly f (Pass (ByValue e) rest) x = PassesImplicitly f rest x
  PassesImplicitly f (Pass (ByReference (Entire y at ss)) rest) x = Broken rule.I5 at (has_implicit s f y) x
      ⊎ PassesImplicitly f rest x

  finds_passed : (f : ℕ) (args : Actuals) → Finds (r.passed_first s f args) (PassesImplicitly f args)
  finds_passed f Nothing = finds_none
  finds_passed f (Pass (ByValue e) rest) = finds_passed f rest
  finds_passed f (Pass (ByReference (Entire y at ss)) rest) =
      finds_both (finds_if rule.I5 at (has_implicit s f y)) (finds_passed f rest)

module _ (s : Sets) (c : Program) where
  abbrev pub is_inside : ℕ → ℕ → Bool
  is_inside d f = r.stands_in c.blocks (length c.blocks) (Some d) f && has_declared s f

  abbrev pub Called : Bool → ℕ → ℕ → Place → Actuals → Option Block → Refusal → Type 0
  Called in_function d f at args None x = ⊥
  Called in_function d f at args (Some k) x = (PassesImplicitly s f args x ⊎ Broken rule.I6 k.at (is_inside d f) x)
      ⊎ Broken rule.I9 at (in_function && stops_of s f) x

  finds_called : (in_function : Bool) (d f : ℕ) (at : Place) (args : Actuals) (o : Option Block)
      → Finds (r.called_first s c in_function d f at args o) (Called in_function d f at args o)
  finds_called in_function d f at args None = finds_none
  finds_called in_function d f at args (Some k) =
      finds_both (finds_both (finds_passed s f args) (finds_if rule.I6 k.at (is_inside d f)))
      (finds_if rule.I9 at (in_function && stops_of s f))

  abbrev pub AtSite : Bool → ℕ → Site → Refusal → Type 0
  AtSite in_function d (SplitsAt parts) x = Clashed s [] parts x
  AtSite in_function d (SpreadsAt at y t) x = Broken rule.I2 at (some_in (targets_of s (number_of t)) is_any) x
  AtSite in_function d (LoopsAt y at t) x = Broken rule.I3 at (has (targets_of s (number_of t)) y) x
  AtSite in_function d (CallsAt f at args) x = Repeated s [] args x
      ⊎ Called in_function d f at args (slice_get c.blocks f) x
  AtSite in_function d (StopsAt at) x = Broken rule.I9 at in_function x

  pub finds_site : (in_function : Bool) (d : ℕ) (site : Site)
      → Finds (r.site_first s c in_function d site) (AtSite in_function d site)
  finds_site in_function d (SplitsAt parts) = finds_clashed s [] parts
  finds_site in_function d (SpreadsAt at y t) = finds_if rule.I2 at _
  finds_site in_function d (LoopsAt y at t) = finds_if rule.I3 at _
  finds_site in_function d (CallsAt f at args) =
      finds_both (finds_repeated s [] args) (finds_called in_function d f at args (slice_get c.blocks f))
  finds_site in_function d (StopsAt at) = finds_if rule.I9 at in_function

  abbrev pub AtFormal : Option declared.Variable → Refusal → Type 0
  AtFormal None x = ⊥
  AtFormal (Some i) x = Broken rule.I7 i.at (r.is_reference i.role) x

  finds_formal : (o : Option declared.Variable) → Finds (λ g. earlier_refusal g (r.formal_rule s c o)) (AtFormal o)
  finds_formal None = finds_as (λ g. refl) (λ x e. absurd (cc e)) (λ x h. absurd h) (finds_one None)
  finds_formal (Some i) = finds_if rule.I7 i.at (r.is_reference i.role)

  abbrev pub AtFormals : List ℕ → Refusal → Type 0
  AtFormals [] x = ⊥
  AtFormals (y ∷ ys) x = AtFormal (slice_get c.variables y) x ⊎ AtFormals ys x

  finds_formals : (xs : List ℕ) → Finds (r.formals_first s c xs) (AtFormals xs)
  finds_formals [] = finds_none
  finds_formals (y ∷ ys) = finds_both (finds_formal (slice_get c.variables y)) (finds_formals ys)

  abbrev pub AtHeading : Option ℕ → ℕ → Block → Refusal → Type 0
  AtHeading None b k x = ⊥
  AtHeading (Some y) b k x = AtFormals k.formals x ⊎ Broken rule.I8 k.at (some_in (implicit_targets_of s b) is_any) x

  finds_heading : (answer : Option ℕ) (b : ℕ) (k : Block)
      → Finds (r.heading_first s c answer b k) (AtHeading answer b k)
  finds_heading None b k = finds_none
  finds_heading (Some y) b k = finds_both (finds_formals k.formals)
      (finds_if rule.I8 k.at (some_in (implicit_targets_of s b) is_any))

  -- what is broken in a block
  abbrev pub InBlock : ℕ → Block → Refusal → Type 0
  InBlock b k x = AtHeading k.answer b k x ⊎ ((site : Site) × IsSite site (statement_sites k.body)
      × AtSite (r.is_function k.answer) b site x)

  finds_body : (b : ℕ) (k : Block) → Finds (statement_first (r.site_first s c (r.is_function k.answer) b) k.body)
      (λ x. (site : Site) × IsSite site (statement_sites k.body) × AtSite (r.is_function k.answer) b site x)
  finds_body b k = finds_as (statement_along (r.site_first s c (r.is_function k.answer) b) k.body) (λ x h. h) (λ x h. h)
      (finds_along (r.site_first s c (r.is_function k.answer) b) (AtSite (r.is_function k.answer) b)
      (finds_site (r.is_function k.answer) b) (statement_sites k.body))

  abbrev pub InBlocks : ℕ → List Block → Refusal → Type 0
  InBlocks b [] x = ⊥
  InBlocks b (k ∷ ks) x = InBlock b k x ⊎ InBlocks (suc b) ks x

  pub finds_blocks : (b : ℕ) (ks : List Block) → Finds (r.blocks_first s c b ks) (InBlocks b ks)
  finds_blocks b [] = finds_none
  finds_blocks b (k ∷ ks) = finds_both (finds_both (finds_heading k.answer b k) (finds_body b k))
      (finds_blocks (suc b) ks)

  pub block_of : (b : ℕ) (ks : List Block) (x : Refusal) → InBlocks b ks x → (i : ℕ) × (k : Block)
      × (slice_get ks i ≡ Some k) × InBlock (b + i) k x
  block_of b [] x h = absurd h
  block_of b (k ∷ ks) x (inl h) = (zero, k, refl, subst (λ n. InBlock n k x) (omega arith) h)
  block_of b (k ∷ ks) x (inr h) = let (i, block, in_list, breach) = block_of (suc b) ks x h in
      (suc i, block, in_list, subst (λ n. InBlock n block x) (omega arith) breach)

  pub of_block : (b : ℕ) (ks : List Block) (x : Refusal) (i : ℕ) (k : Block) → slice_get ks i ≡ Some k
      → InBlock (b + i) k x → InBlocks b ks x
  of_block b [] x i k e h = absurd (cc e)
  of_block b (m ∷ ms) x zero k e h = let same : k ≡ m = cc e in
      inl (subst (λ n. InBlock n m x) (omega arith) (subst (λ z. InBlock (b + 0) z x) same h))
  of_block b (m ∷ ms) x (suc i) k e h = inr (of_block (suc b) ms x i k e (subst (λ n. InBlock n k x) (omega arith) h))
