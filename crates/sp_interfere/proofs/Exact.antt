-- The walk finds the first rule of interference that a program breaks.
use Rattle.std.proofs.Common.{◌≡◌, ◌⊎◌, inl, inr, ℕ, true, false, List, [], ◌∷◌}
use Rattle.std.proofs.Common.{length, Option, Some, None, slice_get, refl, sym, ap, ◌∙◌, subst, arith}
use Rattle.std.proofs.lemmas.Bool.{and_from}
use Rattle.std.proofs.lemmas.Option.{same_Some}
use Rattle.sp_base.specs.declared.place.Place.{Place}
use Rattle.sp_base.specs.declared.halt.Refusal.{Refusal}
use Rattle.sp_base.specs.declared.rule.Rule.{Rule}
use Rattle.sp_base.specs.declared.rule.Rule.TheVariants as rule
use Rattle.sp_base.proofs.Facts.{first_true, second_true}
use Rattle.sp_tree.specs.declared.checked.Role.TheVariants as role
use Rattle.sp_tree.specs.declared.checked.Variable as declared
use Rattle.sp_tree.specs.First.{refusal_before}
use Rattle.sp_tree.specs.PhaseResults.{FirstRefusal, phase_result}
use Rattle.sp_tree.specs.PlainChecked as p
use Rattle.sp_tree.specs.Plain.{Block, Actuals}
use Rattle.sp_tree.specs.Bare.{without_places, bare_block, bare_statement, bare_actuals}
use Rattle.sp_tree.specs.Uses.{CallOf, In_stmt}
use Rattle.sp_tree.specs.Interference.{IsMember, IsFunction}
use Rattle.sp_tree.specs.Sites.{Site, SplitsAt, SpreadsAt, LoopsAt, CallsAt, StopsAt, statement_sites}
use Rattle.sp_tree.specs.Interferes.{IsSite, SplitBreaks, Repeats, CallRepeats, PassesImplicit, SiteBreaks, SiteStops}
use Rattle.sp_tree.specs.Interferes.{Interferes}
use Rattle.sp_tree.proofs.NoBreach.{block_at}
use Rattle.sp_varsets.specs.declared.sets.Sets.{Sets}
use Rattle.sp_varsets.specs.Parts.{number_of}
use Rattle.sp_varsets.specs.AreSets.{targets_of, implicit_targets_of, stops_of, OfStatement, AreSets}
use Rattle.sp_varsets.specs.AreSets.{HaveEarlierParents}
use Rattle.sp_interfere.specs.Tests.{is_any, has_declared}
use Rattle.sp_interfere.specs.Rules.{is_reference, is_function, stands_in, blocks_first, rules_first}
use Rattle.sp_interfere.specs.Verdict.{IsVerdict}
use Rattle.sp_interfere.proofs.SetTests.{some_from, some_to}
use Rattle.sp_interfere.proofs.BlockLevels.{bare_at, stands_from, stands_to, within}
use Rattle.sp_interfere.proofs.FittingSites.{AllParts, SiteFits, one_fits, statement_fits}
use Rattle.sp_interfere.proofs.Calls.{statement_called}
use Rattle.sp_interfere.proofs.FindsFirst.{Finds}
use Rattle.sp_interfere.proofs.FirstBreaches.{refusal, is_inside, Called, AtSite, AtFormal}
use Rattle.sp_interfere.proofs.FirstBreaches.{AtFormals, AtHeading, InBlock, InBlocks, finds_blocks, block_of, of_block}
use Rattle.sp_interfere.proofs.Means.{is_reference_to, answer_of, clash_to, clash_back, repeat_to}
use Rattle.sp_interfere.proofs.Means.{repeat_back, passed_to, passed_back, declared_to_implicit, implicit_declared, One}

module _ (c : p.Program) (s : Sets) (are : AreSets c s) (rises : HaveEarlierParents c) where
  -- a function, with the places and without
  function_to : (b : ℕ) (k : p.Block) → slice_get c.blocks b ≡ Some k → is_function k.answer ≡ true
      → IsFunction (without_places c) b
  function_to b k e h = let y = answer_of k.answer h in (bare_block k, y.0, bare_at c.blocks b k e, y.1)

  function_back : (b : ℕ) (k : p.Block) → slice_get c.blocks b ≡ Some k → IsFunction (without_places c) b → (y : ℕ)
      × (k.answer ≡ Some y)
  function_back b k e (m, y, at, a) =
      let r = block_at c.blocks b m at in
      let same : r.0 ≡ k = same_Some r.0 k (sym r.1 ∙ e) in
      (y, ap (λ (z : p.Block). z.answer) (sym same) ∙ (ap (λ (z : Block). z.answer) r.2 ∙ a))

  flag : (o : Option ℕ) (y : ℕ) → o ≡ Some y → is_function o ≡ true
  flag o y e = ap is_function e

  module _ (b : ℕ) (k : p.Block) (e : slice_get c.blocks b ≡ Some k) where
    abbrev Fit : Site → Type 0
    Fit = SiteFits (λ t. OfStatement (without_places c) s t) (λ f bs. In_stmt (bare_statement k.body) (CallOf f bs))

    fit : (site : Site) → IsSite site (statement_sites k.body) → Fit site
    fit site i = one_fits (λ t. OfStatement (without_places c) s t)
        (λ f bs. In_stmt (bare_statement k.body) (CallOf f bs))
        (statement_sites k.body) site (statement_fits (λ t. OfStatement (without_places c) s t)
        (λ f bs. In_stmt (bare_statement k.body) (CallOf f bs)) k.body (λ t h. are.statements b k e t h) (λ f bs h. h))
        i

    only_parts : (parts : p.Statements) → AllParts (λ t. OfStatement (without_places c) s t)
        (λ f bs. In_stmt (bare_statement k.body) (CallOf f bs)) parts
        → AllParts (OfStatement (without_places c) s) (λ f bs. Unit {0}) parts
    only_parts p.NoStatement h = tt
    only_parts (p.AndThen t rest) h = (h.0, only_parts rest h.1)

    -- the whole of a rule at a place, where the tests say so
    abbrev IsBreachOf : Refusal → Type 0
    IsBreachOf x = Interferes c x.rule x.at

    said : (R : Rule) (at : Place) (x : Refusal) → x ≡ refusal R at → Interferes c R at → IsBreachOf x
    said R at x q h = subst (λ (y : Refusal). Interferes c y.rule y.at) (sym q) h

    said_by : (R : Rule) (x : Refusal) → x.rule ≡ R → Interferes c R x.at → IsBreachOf x
    said_by R x q h = subst (λ r. Interferes c r x.at) (sym q) h

    formals_to : IsFunction (without_places c) b → (xs : List ℕ) → ((y : ℕ) → IsMember y xs → IsMember y k.formals)
        → (x : Refusal) → AtFormals s c xs x → IsBreachOf x
    formals_to f [] within x h = absurd h
    formals_to f (y ∷ ys) within x (inl h) = go (slice_get c.variables y) refl h
      where
        go : (o : Option declared.Variable) → slice_get c.variables y ≡ o → AtFormal s c o x → IsBreachOf x
        go None q h = absurd h
        go (Some i) q (h, z) = said rule.I7 i.at x z
            (b, k, e, f, y, within y (inl refl), i, q, is_reference_to i.role h, refl)
    formals_to f (y ∷ ys) within x (inr h) = formals_to f ys (λ z i. within z (inr i)) x h

    heading_to : (o : Option ℕ) → k.answer ≡ o → (x : Refusal) → AtHeading s c o b k x → IsBreachOf x
    heading_to None q x h = absurd h
    heading_to (Some y) q x (inl h) = formals_to (function_to b k e (flag k.answer y q)) k.formals (λ z i. i) x h
    heading_to (Some y) q x (inr (h, z)) =
        let t = some_from (implicit_targets_of s b) is_any h in
        said rule.I8 k.at x z (
          b,
          k,
          e,
          refl,
          function_to b k e (flag k.answer y q),
          t.0,
          ((are.blocks b k e).targets t.0).0 t.1,
        )

    inside_to : (f : ℕ) (m : p.Block) → slice_get c.blocks f ≡ Some m → (bs : Actuals)
        → In_stmt (bare_statement k.body) (CallOf f bs) → is_inside s c b f ≡ true → Interferes c rule.I6 m.at
    inside_to f m em bs run h =
        let n = stands_from c (length c.blocks) b f
        (first_true (stands_in c.blocks (length c.blocks) (Some b) f) (has_declared s f) h) in
        let y = declared_to_implicit (without_places c) s f (are.blocks f m em)
        (second_true (stands_in c.blocks (length c.blocks) (Some b) f) (has_declared s f) h) in
        (f, m, em, refl, (n.0, b, n.1, bare_block k, bare_at c.blocks b k e, bs, run), y.0, y.1, y.2)

    called_to : (f : ℕ) (at : Place) (args : p.Actuals) → IsSite (CallsAt f at args) (statement_sites k.body)
        → (o : Option p.Block) → slice_get c.blocks f ≡ o → (x : Refusal)
        → Called s c (is_function k.answer) b f at args o x → IsBreachOf x
    called_to f at args i None q x h = absurd h
    called_to f at args i (Some m) q x (inl (inl h)) = let z =
        passed_to (without_places c) s f (are.blocks f m q) args x h in
        said_by rule.I5 x z.0 (b, k, e, CallsAt f at args, i, z.1)
    called_to f at args i (Some m) q x (inl (inr (h, z))) =
        said rule.I6 m.at x z (inside_to f m q (bare_actuals args) (fit (CallsAt f at args) i) h)
    called_to f at args i (Some m) q x (inr (h, z)) =
        said rule.I9 at x z (
          b,
          k,
          e,
          function_to b k e (first_true (is_function k.answer) (stops_of s f) h),
          CallsAt f at args,
          i,
          (
            refl,
            (are.blocks f m q).stops.0
                (second_true (is_function k.answer) (stops_of s f) h),
          ),
        )

    none_before : (at : Place) (parts : p.Statements) → One (without_places c) s (λ u. ⊥) parts at
        → SplitBreaks (without_places c) parts at
    none_before at parts (inl (u, n, h)) = absurd n
    none_before at parts (inr h) = h

    none_passed : (at : Place) (args : p.Actuals) → ((y : ℕ) × IsMember y [] × Repeats (without_places c) y args at)
        ⊎ CallRepeats (without_places c) args at → CallRepeats (without_places c) args at
    none_passed at args (inl (y, n, h)) = absurd n
    none_passed at args (inr h) = h

    site_to : (site : Site) → IsSite site (statement_sites k.body) → (x : Refusal)
        → AtSite s c (is_function k.answer) b site x → IsBreachOf x
    site_to (SplitsAt parts) i x h =
        let z = clash_to (without_places c) s [] (λ u. ⊥) (λ m j. absurd j) (λ u j. absurd j) parts
        (only_parts parts (fit (SplitsAt parts) i)) x h in
        said_by rule.I1 x z.0 (b, k, e, SplitsAt parts, i, none_before x.at parts z.1)
    site_to (SpreadsAt at y t) i x (h, z) =
        let v = some_from (targets_of s (number_of t)) is_any h in
        said rule.I2 at x z (b, k, e, SpreadsAt at y t, i, (refl, v.0, ((fit (SpreadsAt at y t) i).targets v.0).0 v.1))
    site_to (LoopsAt y at t) i x (h, z) = said rule.I3 at x z
        (b, k, e, LoopsAt y at t, i, (refl, ((fit (LoopsAt y at t) i).targets y).0 h))
    site_to (CallsAt f at args) i x (inl h) =
        let z = repeat_to (without_places c) s [] args x h in
        said_by rule.I4 x z.0 (b, k, e, CallsAt f at args, i, none_passed x.at args z.1)
    site_to (CallsAt f at args) i x (inr h) = called_to f at args i (slice_get c.blocks f) refl x h
    site_to (StopsAt at) i x (h, z) = said rule.I9 at x z (b, k, e, function_to b k e h, StopsAt at, i, refl)

    block_to : (x : Refusal) → InBlock s c b k x → IsBreachOf x
    block_to x (inl h) = heading_to k.answer refl x h
    block_to x (inr (site, i, h)) = site_to site i x h

    -- and back: what is broken the tests say
    call_back : (f : ℕ) (at : Place) (args : p.Actuals) (m : p.Block) → slice_get c.blocks f ≡ Some m → (x : Refusal)
        → Called s c (is_function k.answer) b f at args (Some m) x
        → AtSite s c (is_function k.answer) b (CallsAt f at args) x
    call_back f at args m q x h = inr (subst (λ o. Called s c (is_function k.answer) b f at args o x) (sym q) h)

    callee : (f : ℕ) (args : p.Actuals) (at : Place) → PassesImplicit (without_places c) f args at → (m : p.Block)
        × (slice_get c.blocks f ≡ Some m)
    callee f p.Nothing at h = absurd h
    callee f (p.Pass (p.ByValue x) rest) at h = callee f rest at h
    callee f (p.Pass (p.ByReference (p.Entire y here ss)) rest) at (inl (there, (m, em, free, u))) = let r =
        block_at c.blocks f m em in (r.0, r.1)
    callee f (p.Pass (p.ByReference (p.Entire y here ss)) rest) at (inr h) = callee f rest at h

    site_back : (site : Site) → IsSite site (statement_sites k.body) → (r : Rule) (at : Place)
        → SiteBreaks (without_places c) site r at → AtSite s c (is_function k.answer) b site (refusal r at)
    site_back (SplitsAt parts) i rule.I1 at h =
        clash_back (without_places c) s [] (λ u. ⊥) (λ u j. absurd j) (λ u j. absurd j) parts
        (only_parts parts (fit (SplitsAt parts) i)) at (inr h)
    site_back (SpreadsAt here y t) i rule.I2 at (there, v, h) = (
      some_to (targets_of s (number_of t)) is_any v (((fit (SpreadsAt here y t) i).targets v).1 h) refl,
      ap (refusal rule.I2) (sym there),
    )
    site_back (LoopsAt y here t) i rule.I3 at (there, h) =
        (((fit (LoopsAt y here t) i).targets y).1 h, ap (refusal rule.I3) (sym there))
    site_back (CallsAt f here args) i rule.I4 at h = inl (repeat_back (without_places c) s [] args at (inr h))
    site_back (CallsAt f here args) i rule.I5 at h = let m = callee f args at h in
        call_back f here args m.0 m.1 (refusal rule.I5 at)
        (inl (inl (passed_back (without_places c) s f (are.blocks f m.0 m.1) args at h)))
    site_back site i r at h = absurd h

    stop_back : (site : Site) → IsSite site (statement_sites k.body) → is_function k.answer ≡ true → (at : Place)
        → SiteStops (without_places c) site at → AtSite s c (is_function k.answer) b site (refusal rule.I9 at)
    stop_back (SplitsAt parts) i f at h = absurd h
    stop_back (SpreadsAt here y t) i f at h = absurd h
    stop_back (LoopsAt y here t) i f at h = absurd h
    stop_back (CallsAt d here args) i f at (there, (m, em, bs, r)) =
        let z = block_at c.blocks d m em in
        call_back d here args z.0 z.1 (refusal rule.I9 at)
        (inr (
          and_from (is_function k.answer) (stops_of s d) f ((are.blocks d z.0 z.1).stops.1 (m, em, bs, r)),
          ap (refusal rule.I9) (sym there),
        ))
    stop_back (StopsAt here) i f at there = (f, ap (refusal rule.I9) (sym there))

    formals_back : (xs : List ℕ) (y : ℕ) → IsMember y xs → (i : declared.Variable) → slice_get c.variables y ≡ Some i
        → i.role ≡ role.Reference → AtFormals s c xs (refusal rule.I7 i.at)
    formals_back [] y m i q r = absurd m
    formals_back (z ∷ zs) y (inl w) i q r = inl
        (subst (λ o. AtFormal s c o (refusal rule.I7 i.at)) (sym (ap (slice_get c.variables) (sym w) ∙ q))
        (ap is_reference r, refl))
    formals_back (z ∷ zs) y (inr m) i q r = inr (formals_back zs y m i q r)

    heading_back : (y : ℕ) → k.answer ≡ Some y → (x : Refusal) → AtHeading s c (Some y) b k x → InBlock s c b k x
    heading_back y q x h = inl (subst (λ o. AtHeading s c o b k x) (sym q) h)

    called_back : (d f : ℕ) (m : p.Block) → slice_get c.blocks f ≡ Some m → (at : Place) (args : p.Actuals)
        → IsSite (CallsAt f at args) (statement_sites k.body) → is_inside s c b f ≡ true
        → InBlock s c b k (refusal rule.I6 m.at)
    called_back d f m em at args i h = inr (
      CallsAt f at args,
      i,
      call_back f at args m em (refusal rule.I6 m.at) (inl (inr (h, refl))),
    )

  abbrev Found_in : Rule → Place → Type 0
  Found_in r at = (b : ℕ) × (k : p.Block) × (slice_get c.blocks b ≡ Some k) × InBlock s c b k (refusal r at)

  inside_back : (at : Place) → Interferes c rule.I6 at → Found_in rule.I6 at
  inside_back at (f, m, em, here, (n, d, below, w, ew, bs, run), y, i, l) =
      let z = block_at c.blocks d w ew in
      let called = statement_called f bs z.0.body (subst (λ (v : Block). In_stmt v.body (CallOf f bs)) (sym z.2) run) in
      let up = stands_to c rises n (length c.blocks) d f (within c d z.0 z.1) below in
      let test = and_from (stands_in c.blocks (length c.blocks) (Some d) f) (has_declared s f) up
      (implicit_declared (without_places c) s f y (are.blocks f m em) i l) in (
        d,
        z.0,
        z.1,
        subst (λ p. InBlock s c d z.0 (refusal rule.I6 p)) here
            (called_back d z.0 z.1 d f m em called.0 called.1 called.2 test),
      )

  broken_back : (r : Rule) (at : Place) → Interferes c r at → Found_in r at
  broken_back rule.I6 at h = inside_back at h
  broken_back rule.I7 at (b, k, e, f, y, m, i, q, role, here) =
      let a = function_back b k e f in (
        b,
        k,
        e,
        subst (λ p. InBlock s c b k (refusal rule.I7 p)) here
            (heading_back b k e a.0 a.1 (refusal rule.I7 i.at) (inl (formals_back b k e k.formals y m i q role))),
      )
  broken_back rule.I8 at (b, k, e, here, f, y, t) =
      let a = function_back b k e f in (
        b,
        k,
        e,
        subst (λ p. InBlock s c b k (refusal rule.I8 p)) here
            (heading_back b k e a.0 a.1 (refusal rule.I8 k.at)
            (inr (some_to (implicit_targets_of s b) is_any y (((are.blocks b k e).targets y).1 t) refl, refl))),
      )
  broken_back rule.I9 at (b, k, e, f, site, i, h) = let a = function_back b k e f in
      (b, k, e, inr (site, i, stop_back b k e site i (flag k.answer a.0 a.1) at h))
  broken_back r at h = let (b, k, e, site, i, breach) = h in
      (b, k, e, inr (site, i, site_back b k e site i r at breach))

  all : Finds (blocks_first s c 0 c.blocks) (InBlocks s c 0 c.blocks)
  all = finds_blocks s c 0 c.blocks

  there : (x : Refusal) → InBlocks s c 0 c.blocks x → Interferes c x.rule x.at
  there x h = let (i, block, in_list, breach) = block_of s c 0 c.blocks x h in
      block_to i block in_list x (subst (λ n. InBlock s c n block x) (omega arith) breach)

  back : (r : Rule) (at : Place) → Interferes c r at → InBlocks s c 0 c.blocks (refusal r at)
  back r at h = let (i, block, in_list, breach) = broken_back r at h in
      of_block s c 0 c.blocks (refusal r at) i block in_list
      (subst (λ n. InBlock s c n block (refusal r at)) (omega arith) breach)

  pub verdict : (o : FirstRefusal) → rules_first s c ≡ o → IsVerdict c (phase_result o tt)
  verdict None q = λ r at h. let z = all.least None (refusal r at) (inr (back r at h)) in cc (z.1, q)
  verdict (Some x) q = record {
    breaks = there x (only (all.among None x q));
    first = λ other h. let z = all.least None other (inr (back other.rule other.at h)) in
        let same : z.0 ≡ x = same_Some z.0 x (sym z.1 ∙ q) in subst (λ w. refusal_before other w ≡ false) same z.2;
  }
    where
      only : (None ≡ Some x) ⊎ InBlocks s c 0 c.blocks x → InBlocks s c 0 c.blocks x
      only (inl e) = absurd (cc e)
      only (inr h) = h
