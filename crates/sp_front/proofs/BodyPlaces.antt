-- The statement parts of the blocks of a text stand at different places. Each stands at its own `begin`, and the tokens
-- of a text rise.
use Rattle.std.proofs.Common.{◌≡◌, ◌≢◌, ℕ, suc, ◌<◌, ◌≤◌, List, [], ◌∷◌, ◌++◌, length, map, Option}
use Rattle.std.proofs.Common.{inl, inr, ◌⊎◌, refl, sym as back_of, ap, ap₂, ◌∙◌, subst, arith}
use Rattle.std.proofs.lemmas.Option.{none-some}
use Rattle.sp_base.specs.declared.place.Place.{Place}
use Rattle.sp_base.proofs.Facts.{less_same_or_more}
use Rattle.sp_tree.specs.declared.token.Token.{Token}
use Rattle.sp_tree.specs.declared.syntax.Name.{Name}
use Rattle.sp_tree.specs.declared.syntax.SynFormal.{SynFormal}
use Rattle.sp_tree.specs.declared.syntax.SynGroup.{SynGroup}
use Rattle.sp_tree.specs.PlainSyntax as tree
use Rattle.sp_tree.specs.Places.{start, place_at}
use Rattle.sp_tree.specs.Grammar as g
use Rattle.sp_tree.specs.Grammar.{with_part_first}
use Rattle.sp_tree.specs.Breaches.{IsTree}
use Rattle.sp_tree.specs.Viable.{Any}
use Rattle.sp_tree.proofs.Earlier.{Earlier, not_earlier}
use Rattle.sp_tree.specs.Symbols as sym
use Rattle.sp_tree.specs.Symbols.{Symbol, Value, Values}
use Rattle.sp_tree.specs.Derives.{Derives, takes, skips, DerivesAll, none, and}
use Rattle.sp_tree.proofs.RefusalOrder.{rises}
use Rattle.sp_tree.proofs.TokenOrder.{Rising, rising}
use Rattle.sp_tree.proofs.ToTable as to
use Rattle.sp_types.specs.StatementNumbers.{DiffersFrom, AllDiffer}
use Rattle.sp_types.proofs.StatementNumbers.{differs_both}

-- where a statement stands
abbrev pub place_of : tree.Statement → Place
place_of (tree.Does at form) = at

-- the places of the statement parts of the blocks in parts, outer ones first
abbrev mutual
  pub parts_places : tree.Parts → List Place
  parts_places tree.NoPart = []
  parts_places (tree.Declare p rest) = part_places p ++ parts_places rest

  pub part_places : tree.Part → List Place
  part_places (tree.Const x c) = []
  part_places (tree.Kind x k) = []
  part_places (tree.Var xs t) = []
  part_places (tree.Proc x fs answer parts body) = place_of body ∷ parts_places parts

-- ---- what is left of tokens

data Tail : List Token → List Token → Type 0 where
  same : {ts : List Token} → Tail ts ts
  behind : {t : Token} {ts r : List Token} → Tail ts r → Tail (t ∷ ts) r

far : {ts u r : List Token} → Tail ts u → Tail u r → Tail ts r
far same y = y
far (behind x) y = behind (far x y)

module _ (text : List ℕ) (Ok : ℕ → List Token → Type 0) where
  mutual
    derived_tail : {s : Symbol} {ts r : List Token} {v : Value s} → Derives text Ok s ts r v → Tail ts r
    derived_tail (takes t e l b x) = behind (all_tail x)
    derived_tail (skips t l e) = same

    all_tail : {l : List Symbol} {ts r : List Token} {vs : Values l} → DerivesAll text Ok l ts r vs → Tail ts r
    all_tail none = same
    all_tail (and x y) = far (derived_tail x) (all_tail y)

  -- parts take their first token
  parts_take : {d : ℕ} {t : Token} {ts r : List Token} {v : Value (sym.Parts d)}
      → Derives text Ok (sym.Parts d) (t ∷ ts) r v → Tail ts r
  parts_take (takes t e l b x) = all_tail x
  parts_take (skips t l e) = absurd (none-some _ e)

  mutual
    names_tail : {ts r : List Token} {ns : List Name} → g.IsNames text ts r ns → Tail ts r
    names_tail (g.names (g.name t p) x) = behind (more_names_tail x)

    more_names_tail : {ts r : List Token} {ns : List Name} → g.IsMoreNames text ts r ns → Tail ts r
    more_names_tail g.names_end = same
    more_names_tail (g.names_go_on (g.it_is t p) x) = behind (names_tail x)

  group_tail : {ts r : List Token} {x : SynGroup} → g.IsGroup text ts r x → Tail ts r
  group_tail (g.group x (g.it_is t p) (g.name n q)) = far (names_tail x) (behind (behind same))

  formal_tail : {ts r : List Token} {x : SynFormal} → g.IsFormal text ts r x → Tail ts r
  formal_tail (g.by_value x) = group_tail x
  formal_tail (g.by_reference (g.it_is t p) x) = behind (group_tail x)

  more_formals_tail : {ts r : List Token} {xs : List SynFormal} → g.IsMoreFormals text ts r xs → Tail ts r
  more_formals_tail (g.formals_end (g.it_is t p)) = behind same
  more_formals_tail (g.formals_go_on (g.it_is t p) x y) = behind (far (formal_tail x) (more_formals_tail y))

  formals_tail : {ts r : List Token} {xs : List SynFormal} → g.IsFormals text ts r xs → Tail ts r
  formals_tail g.no_formals = same
  formals_tail (g.formals (g.it_is t p) x y) = behind (far (formal_tail x) (more_formals_tail y))

  heading_tail : {ts r : List Token} {ns : List Name} → g.IsHeading text ts r ns → Tail ts r
  heading_tail g.no_heading = same
  heading_tail (g.heading (g.it_is t p) x (g.it_is u q)) = behind (far (names_tail x) (behind same))

  -- parts in which no block stands
  record Plain (ts r : List Token) (p : tree.Part) : Type 0 where
    tail : Tail ts r
    none_in : part_places p ≡ []

  constant_plain : {ts r : List Token} {p : tree.Part} → g.IsConstantPart text ts r p → Plain ts r p
  constant_plain (g.constant_part (g.name t p) (g.it_is e q) c (g.it_is s k)) =
      record { tail = behind (behind (far (derived_tail (to.constant text Ok c)) (behind same))); none_in = refl }

  type_plain : {ts r : List Token} {p : tree.Part} → g.IsTypePart text ts r p → Plain ts r p
  type_plain (g.type_part (g.name t p) (g.it_is e q) c (g.it_is s k)) =
      record { tail = behind (behind (far (derived_tail (to.type_of text Ok c)) (behind same))); none_in = refl }

  variable_plain : {ts r : List Token} {p : tree.Part} → g.IsVariablePart text ts r p → Plain ts r p
  variable_plain (g.variable_part x (g.it_is s k)) = record { tail = far (group_tail x) (behind same); none_in = refl }

  -- ---- where tokens begin

  abbrev begins : List Token → ℕ
  begins [] = length text
  begins (t ∷ ts) = t.from

  abbrev Rises : List Token → Type 0
  Rises ts = Rising text (begins ts) ts

  from_rising : (n : ℕ) (ts : List Token) → Rising text n ts → Rises ts
  from_rising n [] h = tt
  from_rising n (t ∷ ts) (_, inside, is_there, rest) = (omega arith, inside, is_there, rest)

  after_first : (t : Token) (ts : List Token) → Rises (t ∷ ts) → t.from < begins ts
  after_first t [] h = h.1
  after_first t (u ∷ us) (_, _, _, (is_behind, _, _, _)) = is_behind

  rest_rises : (t : Token) (ts : List Token) → Rises (t ∷ ts) → Rises ts
  rest_rises t ts (_, _, _, rest) = from_rising (suc t.from) ts rest

  tail_rises : {ts r : List Token} → Tail ts r → Rises ts → Rises r
  tail_rises same h = h
  tail_rises (behind {t = t} {ts = ts} x) h = tail_rises x (rest_rises t ts h)

  tail_begins : {ts r : List Token} → Tail ts r → Rises ts → begins ts ≤ begins r
  tail_begins same h = omega arith
  tail_begins (behind {t = t} {ts = ts} x) h = let l = after_first t ts h in
      let m = tail_begins x (rest_rises t ts h) in omega arith

  begins_in : (ts : List Token) → Rises ts → begins ts ≤ length text
  begins_in [] h = omega arith
  begins_in (t ∷ ts) h = let l = h.1 in omega arith

  -- ---- the bodies of a block

  abbrev AllIn : ℕ → ℕ → List ℕ → Type 0
  AllIn lo hi [] = Unit {0}
  AllIn lo hi (i ∷ is) = (lo ≤ i) × (i < hi) × AllIn lo hi is

  wider : (lo hi low high : ℕ) (is : List ℕ) → low ≤ lo → hi ≤ high → AllIn lo hi is → AllIn low high is
  wider lo hi low high [] l h a = tt
  wider lo hi low high (i ∷ is) l h a = let b = a.0 in let c = a.1 in
      (omega arith, omega arith, wider lo hi low high is l h a.2)

  both_in : (lo hi : ℕ) (is js : List ℕ) → AllIn lo hi is → AllIn lo hi js → AllIn lo hi (is ++ js)
  both_in lo hi [] js a b = b
  both_in lo hi (i ∷ is) js a b = (a.0, a.1, both_in lo hi is js a.2 b)

  -- a number in front of others
  in_front : (i lo hi : ℕ) (is : List ℕ) → i < lo → AllIn lo hi is → DiffersFrom i is
  in_front i lo hi [] l a = tt
  in_front i lo hi (j ∷ js) l a = (λ e. let b = a.0 in absurd (omega (arith, e)), in_front i lo hi js l a.2)

  all_both : (lo mid hi high : ℕ) (is js : List ℕ) → mid ≤ hi → AllIn lo mid is → AllIn hi high js → AllDiffer is
      → AllDiffer js → AllDiffer (is ++ js)
  all_both lo mid hi high [] js l a b x y = y
  all_both lo mid hi high (i ∷ is) js l a b x y = let c = a.1 in
      (differs_both i is js x.0 (in_front i hi high js (omega arith) b), all_both lo mid hi high is js l a.2 b x.1 y)

  -- The statement part of a block begins within these bounds, and those of the blocks inside it in front of it.
  record Bodies (lo hi : ℕ) (b : tree.Block) : Type 0 where
    at : ℕ
    inner : List ℕ
    at_is : place_of b.body ≡ place_at text at
    inner_are : parts_places b.parts ≡ map (place_at text) inner
    low : lo ≤ at
    high : at < hi
    between : AllIn lo at inner
    differ : AllDiffer inner

  lower : {lo low hi : ℕ} {b : tree.Block} → low ≤ lo → Bodies lo hi b → Bodies low hi b
  lower {lo} {low} {hi} l x = record {
    at = x.at;
    inner = x.inner;
    at_is = x.at_is;
    inner_are = x.inner_are;
    low = let h = x.low in omega arith;
    high = x.high;
    between = wider lo x.at low x.at x.inner l (omega arith) x.between;
    differ = x.differ;
  }

  -- behind a part in which no block stands
  behind_plain : {ts u : List Token} {p : tree.Part} {b : tree.Block} {hi : ℕ} → Plain ts u p → Rises ts
      → Bodies (begins u) hi b → Bodies (begins ts) hi (with_part_first p b)
  behind_plain {b = b} k h x = let y = lower (tail_begins k.tail h) x in record {
    at = y.at;
    inner = y.inner;
    at_is = y.at_is;
    inner_are = ap (λ l. l ++ parts_places b.parts) k.none_in ∙ y.inner_are;
    low = y.low;
    high = y.high;
    between = y.between;
    differ = y.differ;
  }

  map_both : (is js : List ℕ) → map (place_at text) (is ++ js) ≡ map (place_at text) is ++ map (place_at text) js
  map_both [] js = refl
  map_both (i ∷ is) js = ap (λ l. place_at text i ∷ l) (map_both is js)

  -- behind a block
  behind_block : {lo mid next hi : ℕ} {n : Name} {fs : List SynFormal} {answer : Option Name} {k m : tree.Block}
      → mid ≤ next → Bodies lo mid k → Bodies next hi m
      → Bodies lo hi (with_part_first (tree.Proc n fs answer k.parts k.body) m)
  behind_block {lo} {mid} {next} {hi} {k = k} {m = m} l x y =
      let xl = x.low in let xh = x.high in let yl = y.low in record {
        at = y.at;
        inner = (x.at ∷ x.inner) ++ y.inner;
        at_is = y.at_is;
        inner_are = ap₂ (λ p q. p ++ q) (ap₂ (λ p (q : List Place). p ∷ q) x.at_is x.inner_are) y.inner_are
            ∙ back_of (map_both (x.at ∷ x.inner) y.inner);
        low = omega arith;
        high = y.high;
        between = both_in lo y.at (x.at ∷ x.inner) y.inner
            (xl, omega arith, wider lo x.at lo y.at x.inner (omega arith) (omega arith) x.between)
            (wider next y.at lo y.at y.inner (omega arith) (omega arith) y.between);
        differ = all_both lo mid next y.at (x.at ∷ x.inner) y.inner l
            (xl, xh, wider lo x.at lo mid x.inner (omega arith) (omega arith) x.between) y.between
            (turned x.inner x.between, x.differ) y.differ;
      }
    where
      turned : (is : List ℕ) → AllIn lo x.at is → DiffersFrom x.at is
      turned [] a = tt
      turned (i ∷ is) a = (λ e. let b = a.1 in absurd (omega (arith, e)), turned is a.2)

  mutual
    block_bodies : {d : ℕ} {ts r : List Token} {b : tree.Block} → g.IsBlock text Ok d ts r b → Rises ts
        → Bodies (begins ts) (begins r) b
    block_bodies (g.block ok x) h = parts_bodies x h

    parts_bodies : {d : ℕ} {ts r : List Token} {b : tree.Block} → g.IsParts text Ok d ts r b → Rises ts
        → Bodies (begins ts) (begins r) b
    parts_bodies (g.body {t = t} {ts = ts} x) h = record {
      at = t.from;
      inner = [];
      at_is = h.2;
      inner_are = refl;
      low = omega arith;
      high = let k = parts_take (to.as_parts text Ok (to.parts text Ok (g.body x))) in let l = after_first t ts h in
          let m = tail_begins k (rest_rises t ts h) in omega arith;
      between = tt;
      differ = tt;
    }
    parts_bodies (g.constants {u = u} (g.it_is t p) c x) h = let k = constant_plain c in let i = rest_rises t u h in
        let l = after_first t u h in lower (omega arith)
        (behind_plain k i (more_constants_bodies x (tail_rises k.tail i)))
    parts_bodies (g.types {u = u} (g.it_is t p) c x) h = let k = type_plain c in let i = rest_rises t u h in
        let l = after_first t u h in lower (omega arith) (behind_plain k i (more_types_bodies x (tail_rises k.tail i)))
    parts_bodies (g.variables {u = u} (g.it_is t p) c x) h = let k = variable_plain c in let i = rest_rises t u h in
        let l = after_first t u h in lower (omega arith)
        (behind_plain k i (more_variables_bodies x (tail_rises k.tail i)))
    parts_bodies (g.procedure {g = w} (g.it_is t p) (g.name n q) fs (g.it_is s i) k (g.it_is e j) m) h =
        let before : Tail _ _ = behind {t = t} (behind {t = n} (far (formals_tail fs) (behind {t = s} same))) in
        let at_block = tail_rises before h in
        let end = tail_rises (derived_tail (to.block text Ok k)) at_block in
        let l = after_first e w end in
        lower (tail_begins before h) (behind_block (omega arith) (block_bodies k at_block)
        (parts_bodies m (rest_rises e w end)))
    parts_bodies (g.function {i = w} (g.it_is t p) (g.name n q) fs (g.it_is c o) (g.name a z) (g.it_is s y) k
        (g.it_is e j) m) h =
        let before : Tail _ _ = behind {t = t}
        (behind {t = n} (far (formals_tail fs) (behind {t = c} (behind {t = a} (behind {t = s} same))))) in
        let at_block = tail_rises before h in
        let end = tail_rises (derived_tail (to.block text Ok k)) at_block in
        let l = after_first e w end in
        lower (tail_begins before h) (behind_block (omega arith) (block_bodies k at_block)
        (parts_bodies m (rest_rises e w end)))

    more_constants_bodies : {d : ℕ} {ts r : List Token} {b : tree.Block} → g.IsMoreConstants text Ok d ts r b → Rises ts
        → Bodies (begins ts) (begins r) b
    more_constants_bodies (g.constants_end x) h = parts_bodies x h
    more_constants_bodies (g.constants_go_on c x) h = let k = constant_plain c in
        behind_plain k h (more_constants_bodies x (tail_rises k.tail h))

    more_types_bodies : {d : ℕ} {ts r : List Token} {b : tree.Block} → g.IsMoreTypes text Ok d ts r b → Rises ts
        → Bodies (begins ts) (begins r) b
    more_types_bodies (g.types_end x) h = parts_bodies x h
    more_types_bodies (g.types_go_on c x) h = let k = type_plain c in
        behind_plain k h (more_types_bodies x (tail_rises k.tail h))

    more_variables_bodies : {d : ℕ} {ts r : List Token} {b : tree.Block} → g.IsMoreVariables text Ok d ts r b → Rises ts
        → Bodies (begins ts) (begins r) b
    more_variables_bodies (g.variables_end x) h = parts_bodies x h
    more_variables_bodies (g.variables_go_on c x) h = let k = variable_plain c in
        behind_plain k h (more_variables_bodies x (tail_rises k.tail h))

  -- ---- places of different tokens differ

  places_differ : (i j : ℕ) → i ≢ j → i < length text → j < length text → place_at text i ≢ place_at text j
  places_differ i j n h k e = go (less_same_or_more i j)
    where
      go : (i < j) ⊎ ((i ≡ j) ⊎ (j < i)) → ⊥
      go (inl l) = not_earlier (place_at text j)
          (subst (λ p. Earlier p (place_at text j)) e (rises text start i j l (omega arith)))
      go (inr (inl l)) = n l
      go (inr (inr l)) = not_earlier (place_at text i)
          (subst (λ p. Earlier p (place_at text i)) (back_of e) (rises text start j i l (omega arith)))

  one_differs : (i : ℕ) (is : List ℕ) → i < length text → AllIn 0 (length text) is → DiffersFrom i is
      → DiffersFrom (place_at text i) (map (place_at text) is)
  one_differs i [] h a d = tt
  one_differs i (j ∷ js) h a d = (places_differ i j d.0 h a.1, one_differs i js h a.2 d.1)

  all_differ : (is : List ℕ) → AllIn 0 (length text) is → AllDiffer is → AllDiffer (map (place_at text) is)
  all_differ [] a d = tt
  all_differ (i ∷ is) a d = (one_differs i is a.1 a.2 d.0, all_differ is a.2 d.1)

  bodies_differ : {lo hi : ℕ} {b : tree.Block} → hi ≤ length text → Bodies lo hi b
      → AllDiffer (place_of b.body ∷ parts_places b.parts)
  bodies_differ {lo} {hi} l x =
      let h = x.high in
      let a = all_differ (x.at ∷ x.inner) (
        omega arith,
        omega arith,
        wider lo x.at 0 (length text) x.inner (omega arith) (omega arith) x.between,
      )
      (turned x.inner x.between, x.differ) in
      subst AllDiffer (ap₂ (λ p (q : List Place). p ∷ q) (back_of x.at_is) (back_of x.inner_are)) a
    where
      turned : (is : List ℕ) → AllIn lo x.at is → DiffersFrom x.at is
      turned [] a = tt
      turned (i ∷ is) a = (λ e. let b = a.1 in absurd (omega (arith, e)), turned is a.2)

  program_bodies : {ts r : List Token} {p : tree.Program} → g.IsProgram text Ok ts r p → Rises ts
      → AllDiffer (place_of p.block.body ∷ parts_places p.block.parts)
  program_bodies (g.program (g.it_is t p) (g.name n q) x (g.it_is s i) k (g.it_is {r = w} e j)) h =
      let before : Tail _ _ = behind {t = t} (behind {t = n} (far (heading_tail x) (behind {t = s} same))) in
      let at_block = tail_rises before h in
      let end = tail_rises (derived_tail (to.block text Ok k)) at_block in
      bodies_differ (begins_in (e ∷ w) end) (block_bodies k at_block)

pub places_of_bodies : (text : List ℕ) (p : tree.Program) → IsTree text p
    → AllDiffer (place_of p.block.body ∷ parts_places p.block.parts)
places_of_bodies text p x = program_bodies text Any x.spells
    (from_rising text Any 0 x.tokens (subst (λ n. Rising text n x.tokens)
    (let z : Rattle.sp_tree.specs.Scans.offset text text ≡ 0 = omega arith in z)
    (rising text x.are_tokens.scans (omega arith))))
