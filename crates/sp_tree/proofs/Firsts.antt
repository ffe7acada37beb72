-- The rule where the machine gets stuck is the first that the tokens break; and tokens that are taken whole break none.
use Rattle.std.proofs.Common.{◌≡◌, ℕ, suc, ◌<◌, ◌≤◌, false, List, [], ◌∷◌, ◌++◌, length, Some, ◌⊎◌, inl, inr, refl}
use Rattle.std.proofs.Common.{sym as back_of, ap, ◌∙◌, subst, append_assoc, arith}
use Rattle.sp_base.specs.declared.place.Place.{Place}
use Rattle.sp_base.specs.declared.halt.Refusal.{Refusal}
use Rattle.sp_base.specs.declared.rule.Rule.{Rule}
use Rattle.sp_base.specs.declared.rule.Rule.TheVariants as rule
use Rattle.sp_tree.specs.declared.token.Token.{Token}
use Rattle.sp_tree.specs.PlainSyntax.{Program}
use Rattle.sp_tree.specs.Places.{start, place_at}
use Rattle.sp_tree.specs.Scans.{Scans}
use Rattle.sp_tree.specs.Grammar.{IsProgram}
use Rattle.sp_tree.specs.Viable.{Any, Shallow, Spells, IsViable, IsShallow, IsFirstBad}
use Rattle.sp_tree.specs.First.{refusal_before, IsFirst}
use Rattle.sp_tree.specs.Breaches.{nesting, BreaksGrammar}
use Rattle.sp_tree.proofs.Earlier.{Earlier}
use Rattle.sp_tree.specs.Symbols.{Symbol, AProgram}
use Rattle.sp_tree.specs.SymbolMachine.{Why, Bad, Deep, No, next_behind, StuckAt, run}
use Rattle.sp_tree.specs.Stops.{refusal_of, GetsStuck}
use Rattle.sp_tree.proofs.Wider.{viable_prefix, shallow_prefix, shallow_viable, wider_program}
use Rattle.sp_tree.proofs.Viable.{TakesTokens, Splits, splits, is_shallow, bad, deep_viable, deep_not_shallow}
use Rattle.sp_tree.proofs.Viable.{no_program}
use Rattle.sp_tree.proofs.Viable.{append_nil}
use Rattle.sp_tree.proofs.RefusalOrder.{later, no_sooner, rises}
use Rattle.sp_tree.proofs.TokenOrder.{Rising, rising}

-- a token of two lists: in the first, or in the second
data InFrontOrBehind (front rest left : List Token) (t : Token) (right : List Token) : Type 0 where
  in_front : (mid : List Token) → front ≡ (left ++ t ∷ []) ++ mid → InFrontOrBehind front rest left t right
  behind : (mid : List Token) → left ≡ front ++ mid → rest ≡ mid ++ t ∷ right → InFrontOrBehind front rest left t right

one_more : (x y : Token) {front rest left : List Token} {t : Token} {right : List Token} → x ≡ y
    → InFrontOrBehind front rest left t right → InFrontOrBehind (x ∷ front) rest (y ∷ left) t right
one_more x y e (in_front mid h) = in_front mid (λ i. e i ∷ h i)
one_more x y e (behind mid h g) = behind mid (λ i. back_of e i ∷ h i) g

stands : (front rest left : List Token) (t : Token) (right : List Token) → front ++ rest ≡ left ++ t ∷ right
    → InFrontOrBehind front rest left t right
stands [] rest left t right e = behind left refl e
stands (x ∷ front) rest [] t right e = in_front front (let same : x ≡ t = cc in ap (λ y. y ∷ front) same)
stands (x ∷ front) rest (y ∷ left) t right e = one_more x y (cc) (stands front rest left t right (cc))

-- the places of tokens in front of others
rising_behind : (bytes : List ℕ) (n : ℕ) (mid : List Token) (t : Token) (right : List Token)
    → Rising bytes n (mid ++ t ∷ right) → (n ≤ t.from) × (t.from < length bytes) × (t.at ≡ place_at bytes t.from)
rising_behind bytes n [] t right h = (h.0, h.1, h.2)
rising_behind bytes n (x ∷ mid) t right (not_before, _, _, further) =
    let (later, within, at_place) = rising_behind bytes (suc x.from) mid t right further in
    (omega (arith, later, not_before), within, at_place)

rising_drop : (bytes : List ℕ) (n : ℕ) (front : List Token) (t : Token) (us : List Token)
    → Rising bytes n (front ++ t ∷ us) → (t.from < length bytes) × (t.at ≡ place_at bytes t.from)
    × Rising bytes (suc t.from) us
rising_drop bytes n [] t us (_, within, at_place, further) = (within, at_place, further)
rising_drop bytes n (x ∷ front) t us (_, _, _, further) = rising_drop bytes (suc x.from) front t us further

earlier : (bytes : List ℕ) (i j : ℕ) (p q : Place) → p ≡ place_at bytes i → q ≡ place_at bytes j → i < j
    → j ≤ length bytes → Earlier p q
earlier bytes i j p q e f h g = subst (λ p. Earlier p q) (back_of e)
    (subst (Earlier (place_at bytes i)) (back_of f) (rises bytes start i j h g))

module _ (text : List ℕ) (ts : List Token) (scans : Scans text text [] ts) where
  all_rising : Rising text 0 ts
  all_rising = subst (λ n. Rising text n ts) (omega arith) (rising text scans (omega arith))

  -- no breach lies in tokens that are viable and shallow
  none_bad : (front left : List Token) (t : Token) (mid : List Token) → IsShallow text nesting front
      → front ≡ (left ++ t ∷ []) ++ mid → (IsViable text (left ++ t ∷ []) → ⊥) → ⊥
  none_bad front left t mid s e h = h (viable_prefix text (left ++ t ∷ []) mid
      (subst (IsViable text) e (shallow_viable text nesting front s)))

  none_deep : (front left : List Token) (t : Token) (mid : List Token) → IsShallow text nesting front
      → front ≡ (left ++ t ∷ []) ++ mid → (IsShallow text nesting (left ++ t ∷ []) → ⊥) → ⊥
  none_deep front left t mid s e h = h (shallow_prefix text nesting (left ++ t ∷ []) mid
      (subst (IsShallow text nesting) e s))

  -- where all tokens are taken and the program is not at its end
  module _ (pending : List Symbol) (w : Why) (passes : TakesTokens nesting (AProgram ∷ []) ts pending)
      (ends : run (Some nesting) [] pending ≡ StuckAt w []) where
    abbrev end : Refusal
    end = record { rule = rule.G2; at = place_at text (length text) }

    whole_shallow : IsShallow text nesting ts
    whole_shallow = is_shallow nesting text ts pending passes

    nothing_behind : (left : List Token) (t : Token) (right : List Token) (Q : Type 0)
        → ((mid : List Token) → ts ≡ (left ++ t ∷ []) ++ mid → Q) → InFrontOrBehind ts [] left t right → Q
    nothing_behind left t right Q f (in_front mid e) = f mid e
    nothing_behind left t right Q f (behind [] e h) = absurd cc
    nothing_behind left t right Q f (behind (x ∷ mid) e h) = absurd cc

    end_first : (r : Rule) (at : Place) → BreaksGrammar text ts r at → refusal_before (record { rule = r; at = at }) end
        ≡ false
    end_first rule.G1 at b = nothing_behind b.front b.token b.rest _
        (λ mid e. absurd (none_bad ts b.front b.token mid whole_shallow e b.bad))
        (stands ts [] b.front b.token b.rest (append_nil nesting text ts ∙ b.all))
    end_first rule.L2 at b = nothing_behind b.front b.token b.rest _
        (λ mid e. absurd (none_deep ts b.front b.token mid whole_shallow e b.deep))
        (stands ts [] b.front b.token b.rest (append_nil nesting text ts ∙ b.all))
    end_first rule.G2 at b = no_sooner (record { rule = rule.G2; at = at }) end b.place (omega arith)
    end_first r at b = absurd b

    at_end : IsFirst (BreaksGrammar text ts) end
    at_end = record {
      breaks = record {
        viable = shallow_viable text nesting ts whole_shallow;
        no_program = no_program nesting text passes ends;
        place = refl;
      };
      first = λ o b. end_first o.rule o.at b;
    }

  -- where a token is not taken
  module _ (front : List Token) (t : Token) (us : List Token) (pending : List Symbol) (all : ts ≡ front ++ t ∷ us)
      (passes : TakesTokens nesting (AProgram ∷ []) front pending) where
    front_shallow : IsShallow text nesting front
    front_shallow = is_shallow nesting text front pending passes

    here : (t.from < length text) × (t.at ≡ place_at text t.from) × Rising text (suc t.from) us
    here = rising_drop text 0 front t us (subst (Rising text 0) all all_rising)

    -- what stands behind this token
    beyond : (r mine : Rule) (x : Token) (at : Place) (mid right : List Token) → at ≡ x.at → us ≡ mid ++ x ∷ right
        → refusal_before (record { rule = r; at = at }) (record { rule = mine; at = t.at }) ≡ false
    beyond r mine x at mid right p e =
        let i = rising_behind text (suc t.from) mid x right (subst (Rising text (suc t.from)) e here.2) in
        later (record { rule = r; at = at }) (record { rule = mine; at = t.at })
        (earlier text t.from x.from t.at at here.1 (p ∙ i.2) (omega (arith, i.0)) (omega (arith, i.1)))

    at_last : (r mine : Rule) (at : Place) → at ≡ place_at text (length text)
        → refusal_before (record { rule = r; at = at }) (record { rule = mine; at = t.at }) ≡ false
    at_last r mine at p = later (record { rule = r; at = at }) (record { rule = mine; at = t.at })
        (earlier text t.from (length text) t.at at here.1 p (omega (arith, here.0)) (omega arith))

    placed : (Q : Type 0) (r mine : Rule) (at : Place) (left : List Token) (x : Token) (right : List Token) → at ≡ x.at
        → ((mid : List Token) → front ≡ (left ++ x ∷ []) ++ mid → ⊥)
        → (left ≡ front → x ≡ t → refusal_before (record { rule = r; at = at }) (record { rule = mine; at = t.at })
        ≡ false)
        → InFrontOrBehind front (t ∷ us) left x right
        → refusal_before (record { rule = r; at = at }) (record { rule = mine; at = t.at }) ≡ false
    placed Q r mine at left x right p f g (in_front mid e) = absurd (f mid e)
    placed Q r mine at left x right p f g (behind [] e h) = g (e ∙ append_nil nesting text front) (cc)
    placed Q r mine at left x right p f g (behind (y ∷ mid) e h) = beyond r mine x at mid right p (cc)

    bad_first : (r : Rule) (at : Place) → BreaksGrammar text ts r at
        → refusal_before (record { rule = r; at = at }) (record { rule = rule.G1; at = t.at }) ≡ false
    bad_first rule.G1 at b = placed ⊥ rule.G1 rule.G1 at b.front b.token b.rest b.place
        (λ mid e. none_bad front b.front b.token mid front_shallow e b.bad)
        (λ e h. no_sooner (record { rule = rule.G1; at = at }) (record { rule = rule.G1; at = t.at })
        (b.place ∙ ap (λ x. x.at) h) (omega arith)) (stands front (t ∷ us) b.front b.token b.rest (back_of all ∙ b.all))
    bad_first rule.L2 at b = placed ⊥ rule.L2 rule.G1 at b.front b.token b.rest b.place
        (λ mid e. none_deep front b.front b.token mid front_shallow e b.deep)
        (λ e h. no_sooner (record { rule = rule.L2; at = at }) (record { rule = rule.G1; at = t.at })
        (b.place ∙ ap (λ x. x.at) h) (omega arith)) (stands front (t ∷ us) b.front b.token b.rest (back_of all ∙ b.all))
    bad_first rule.G2 at b = at_last rule.G2 rule.G1 at b.place
    bad_first r at b = absurd b

    at_bad : next_behind (Some nesting) pending t ≡ No Bad
        → IsFirst (BreaksGrammar text ts) (record { rule = rule.G1; at = t.at })
    at_bad h = record {
      breaks = record {
        front = front;
        token = t;
        rest = us;
        all = all;
        place = refl;
        bad = bad nesting text t passes h;
      };
      first = λ o b. bad_first o.rule o.at b;
    }

    module _ (stop : next_behind (Some nesting) pending t ≡ No Deep) where
      viable : IsViable text (front ++ t ∷ [])
      viable = deep_viable nesting text t passes stop

      deep_first : (r : Rule) (at : Place) → BreaksGrammar text ts r at
          → refusal_before (record { rule = r; at = at }) (record { rule = rule.L2; at = t.at }) ≡ false
      deep_first rule.G1 at b = placed ⊥ rule.G1 rule.L2 at b.front b.token b.rest b.place
          (λ mid e. none_bad front b.front b.token mid front_shallow e b.bad)
          (λ e h. absurd (b.bad (subst (λ l. IsViable text (l ++ b.token ∷ [])) (back_of e)
          (subst (λ x. IsViable text (front ++ x ∷ [])) (back_of h) viable))))
          (stands front (t ∷ us) b.front b.token b.rest (back_of all ∙ b.all))
      deep_first rule.L2 at b = placed ⊥ rule.L2 rule.L2 at b.front b.token b.rest b.place
          (λ mid e. none_deep front b.front b.token mid front_shallow e b.deep)
          (λ e h. no_sooner (record { rule = rule.L2; at = at }) (record { rule = rule.L2; at = t.at })
          (b.place ∙ ap (λ x. x.at) h) (omega arith))
          (stands front (t ∷ us) b.front b.token b.rest (back_of all ∙ b.all))
      deep_first rule.G2 at b = at_last rule.G2 rule.L2 at b.place
      deep_first r at b = absurd b

      at_deep : IsFirst (BreaksGrammar text ts) (record { rule = rule.L2; at = t.at })
      at_deep = record {
        breaks = record {
          front = front;
          token = t;
          rest = us;
          all = all;
          place = refl;
          viable = viable;
          deep = deep_not_shallow nesting text t passes stop;
        };
        first = λ o b. deep_first o.rule o.at b;
      }

  by_stop : (w : Why) (rest : List Token) (b : Splits nesting (AProgram ∷ []) ts w rest) → (rest ≡ [])
      ⊎ ((t : Token) × (us : List Token) × (rest ≡ t ∷ us) × (next_behind (Some nesting) b.pending t ≡ No w))
      → IsFirst (BreaksGrammar text ts) (refusal_of text w rest)
  by_stop w rest b (inl e) =
      let same : ts ≡ b.front = b.all ∙ ap (λ l. b.front ++ l) e ∙ append_nil nesting text b.front in
      subst (λ l. IsFirst (BreaksGrammar text ts) (refusal_of text w l)) (back_of e)
      (at_end b.pending w (subst (λ l. TakesTokens nesting (AProgram ∷ []) l b.pending) (back_of same) b.passes)
      (subst (λ l. run (Some nesting) l b.pending ≡ StuckAt w l) e b.ends))
  by_stop Bad rest b (inr (t, us, e, h)) = subst (λ l. IsFirst (BreaksGrammar text ts) (refusal_of text Bad l))
      (back_of e) (at_bad b.front t us b.pending (b.all ∙ ap (λ l. b.front ++ l) e) b.passes h)
  by_stop Deep rest b (inr (t, us, e, h)) = subst (λ l. IsFirst (BreaksGrammar text ts) (refusal_of text Deep l))
      (back_of e) (at_deep b.front t us b.pending (b.all ∙ ap (λ l. b.front ++ l) e) b.passes h)

  -- where the machine gets stuck, the first rule is broken
  pub first_broken : (r : Refusal) → GetsStuck text ts (AProgram ∷ []) r → IsFirst (BreaksGrammar text ts) r
  first_broken r s = let b = splits nesting ts (AProgram ∷ []) s.why s.rest s.proof in
      subst (IsFirst (BreaksGrammar text ts)) s.refusal_is (by_stop s.why s.rest b b.stops)

-- Tokens of a program none of whose parts lies too deep break no rule.
shallow_whole : (text : List ℕ) (ts : List Token) (p : Program) → IsProgram text (Shallow nesting 0) ts [] p
    → IsShallow text nesting ts
shallow_whole text ts p x = (
  [],
  p,
  subst (λ l. IsProgram text (Shallow nesting 0) l [] p)
      (back_of (append_nil nesting text ts)) x,
)

pub spells : (text : List ℕ) (ts : List Token) (p : Program) → IsProgram text (Shallow nesting 0) ts [] p
    → Spells text ts p
spells text ts p x = wider_program text (Shallow nesting 0) Any (λ d ts h. tt) x

pub none_broken : (text : List ℕ) (ts : List Token) (p : Program) → IsProgram text (Shallow nesting 0) ts [] p
    → (r : Rule) (at : Place) → BreaksGrammar text ts r at → ⊥
none_broken text ts p x rule.G1 at b = b.bad
    (viable_prefix text (b.front ++ b.token ∷ []) b.rest
    (subst (IsViable text) (b.all ∙ back_of (append_assoc b.front (b.token ∷ []) b.rest))
    (shallow_viable text nesting ts (shallow_whole text ts p x))))
none_broken text ts p x rule.L2 at b = b.deep
    (shallow_prefix text nesting (b.front ++ b.token ∷ []) b.rest
    (subst (IsShallow text nesting) (b.all ∙ back_of (append_assoc b.front (b.token ∷ []) b.rest))
    (shallow_whole text ts p x)))
none_broken text ts p x rule.G2 at b = b.no_program p (spells text ts p x)
none_broken text ts p x r at b = b

-- at most one token is the first that is not viable
same_bad : (text : List ℕ) (ts front other : List Token) (t u : Token) (x : IsFirstBad text ts front t)
    (y : IsFirstBad text ts other u) → InFrontOrBehind front (t ∷ x.rest) other u y.rest → (front ≡ other) × (t ≡ u)
same_bad text ts front other t u x y (in_front mid e) =
    absurd (y.bad (viable_prefix text (other ++ u ∷ []) mid (subst (IsViable text) e x.viable)))
same_bad text ts front other t u x y (behind [] e h) = (back_of (e ∙ append_nil nesting text front), cc)
same_bad text ts front other t u x y (behind (z ∷ mid) e h) =
    let same : t ≡ z = cc in
    absurd (x.bad (viable_prefix text (front ++ t ∷ []) mid
    (subst (IsViable text) (e ∙ ap (λ z. front ++ z ∷ mid) (back_of same)
    ∙ back_of (append_assoc front (t ∷ []) mid)) y.viable)))

pub one_bad : (text : List ℕ) (ts front other : List Token) (t u : Token) → IsFirstBad text ts front t
    → IsFirstBad text ts other u → (front ≡ other) × (t ≡ u)
one_bad text ts front other t u x y = same_bad text ts front other t u x y
    (stands front (t ∷ x.rest) other u y.rest (back_of x.all ∙ y.all))
