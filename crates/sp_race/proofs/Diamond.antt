-- The diamond: where one run is of good steps and ends stuck, each lawful schedule is the front of one that ends as
-- it does.
use Rattle.std.proofs.Common.{◌≡◌, ◌≢◌, ◌⊎◌, ⊎_elim, ℕ, suc, List, [], ◌∷◌, length, Option, Some, None, refl, sym}
use Rattle.std.proofs.Common.{subst, arith}
use Rattle.sp_meaning.specs.Schedules.{System, ScheduleLeads, IsStuck, EndsAlike}

-- A relation on steps of which the laws below hold: "this step is made in a state with the invariant, it keeps Ordered,
-- and it sets no fault"
pub record CommutingSteps (y : System) : Type 1 where
  pub Step : y.State → y.Name → y.State → Type 0
  pub no_fault_before : (s : y.State) (p : y.Name) (t : y.State) → Step s p t → y.HasNoFault s
  pub made : (s : y.State) (p : y.Name) (t : y.State) → Step s p t → y.step s p ≡ Some t
  pub no_fault_after : (s : y.State) (p : y.Name) (t : y.State) → Step s p t → y.HasNoFault t
  -- names are told apart
  pub same_or_not : (p q : y.Name) → (p ≡ q) ⊎ (p ≢ q)
  -- who can step still can, once another has made a good step
  pub persists : (s : y.State) (p q : y.Name) (s1 m : y.State) → p ≢ q → Step s p s1 → y.step s q ≡ Some m
      → (m1 : y.State) × (y.step s1 q ≡ Some m1)
  -- two good steps, of which the second could have been made first, can be made the other way round, and are good
  pub exchange : (s : y.State) (p q : y.Name) (s1 s2 m : y.State) → p ≢ q → Step s p s1 → Step s1 q s2
      → y.step s q ≡ Some m → Step s q m × Step m p s2

-- a run of good steps
abbrev pub GoodRun : {y : System} → CommutingSteps y → y.State → List y.Name → y.State → Type 0
GoodRun g s [] t = t ≡ s
GoodRun {y} g s (p ∷ ps) t = (m : y.State) × g.Step s p m × GoodRun g m ps t

some_is : {A : Type 0} {o : Option A} {x y : A} → o ≡ Some x → o ≡ Some y → x ≡ y
some_is p q = cc

-- what is left of a good run once a process that can step now was moved to its front
pub record Fronted {y : System} (g : CommutingSteps y) (q : y.Name) (s m : y.State) (n : ℕ) (t : y.State) : Type 0 where
  pub step : g.Step s q m
  pub rest : List y.Name
  pub one_less : suc (length rest) ≡ n
  pub run : GoodRun g m rest t

front : {y : System} (g : CommutingSteps y) (ps : List y.Name) (s t : y.State) (q : y.Name) (m : y.State)
    → GoodRun g s ps t
    → IsStuck y t → y.step s q ≡ Some m → Fronted g q s m (length ps) t
front {y} g [] s t q m r stuck e = let h : y.step s q ≡ None = subst (λ z. y.step z q ≡ None) r (stuck q) in
    absurd (cc (h, e))
front {y} g (p ∷ ps) s t q m r stuck e = ⊎_elim
    (λ (same : p ≡ q).
    let made = g.made s p r.0 r.1 in
    let is : r.0 ≡ m = some_is (subst (λ z. y.step s z ≡ Some r.0) same made) e in
    record {
      step = subst (λ z. g.Step s q z) is (subst (λ z. g.Step s z r.0) same r.1);
      rest = ps;
      one_less = omega arith;
      run = subst (λ z. GoodRun g z ps t) is r.2;
    })
    (λ (apart : p ≢ q).
    let still = g.persists s p q r.0 m apart r.1 e in
    let f = front g ps r.0 t q still.0 r.2 stuck still.1 in
    let x = g.exchange s p q r.0 still.0 m apart r.1 f.step e in
    record { step = x.0; rest = p ∷ f.rest; one_less = omega (arith, f.one_less); run = (still.0, x.1, f.run) })
    (g.same_or_not p q)

leads : {y : System} (g : CommutingSteps y) (ps : List y.Name) (s t : y.State) → GoodRun g s ps t
    → ScheduleLeads y s ps t
leads g [] s t r = r
leads g (p ∷ ps) s t r = (r.0, g.no_fault_before s p r.0 r.1, g.made s p r.0 r.1, leads g ps r.0 t r.2)

-- the theorem, over any system
pub ends_alike : {y : System} (g : CommutingSteps y) (qs ps : List y.Name) (s t u : y.State) → y.HasNoFault s
    → GoodRun g s ps t
    → IsStuck y t → ScheduleLeads y s qs u → EndsAlike y s (length ps) t qs u
ends_alike {y} g [] ps s t u no_fault r stuck l =
    record {
      bounded = omega arith;
      no_fault = subst y.HasNoFault (sym l) no_fault;
      rest = ps;
      full = refl;
      goes_on = subst (λ z. ScheduleLeads y z ps t) (sym l) (leads g ps s t r);
    }
ends_alike {y} g (q ∷ qs) ps s t u no_fault r stuck (next, _, goes, leads_next) =
    let f = front g ps s t q next r stuck goes in
    let h = ends_alike g qs f.rest next t u (g.no_fault_after s q next f.step) f.run stuck leads_next in
    record {
      bounded = omega (arith, f.one_less, h.bounded);
      no_fault = h.no_fault;
      rest = h.rest;
      full = omega (arith, f.one_less, h.full);
      goes_on = h.goes_on;
    }
