-- All of this belongs to what the program promises (docs/promise.txt).
-- The rules of interference that a program breaks, each with its place, by clauses on the tree with places. The
-- contract of the check promises the first of these, and a law says that none means the rules of `Interference.antt`.
use Rattle.std.specs.Prelude.{◌≡◌, ◌⊎◌, ℕ, ◌≤◌, List, [], ◌∷◌, Some, slice_get}
use Rattle.sp_base.specs.declared.place.Place.{Place}
use Rattle.sp_base.specs.declared.rule.Rule.{Rule}
use Rattle.sp_base.specs.declared.rule.Rule.TheVariants as rule
use Rattle.sp_tree.specs.declared.checked.Role.TheVariants as role
use Rattle.sp_tree.specs.declared.checked.Variable as ast_x
use Rattle.sp_tree.specs.PlainChecked as p
use Rattle.sp_tree.specs.Bare.{bare_statement, without_places}
use Rattle.sp_tree.specs.Plain.{Program}
use Rattle.sp_tree.specs.Uses.{In_stmt}
use Rattle.sp_tree.specs.Sets.{IsTarget, IsUsed, ImplicitTarget, Implicit, LeadsToStop}
use Rattle.sp_tree.specs.Interference.{IsMember, IsCalledInside, IsFunction}
use Rattle.sp_tree.specs.Sites.{Site, SplitsAt, SpreadsAt, LoopsAt, CallsAt, StopsAt, statement_sites}

-- one of the sites
abbrev pub IsSite : Site → List Site → Type 0
IsSite s [] = ⊥
IsSite s (t ∷ ts) = (s ≡ t) ⊎ IsSite s ts

-- where a statement stands
abbrev pub place_of : p.Statement → Place
place_of (p.Does n at form) = at

module _ (g : Program) where
  -- a target of one is a target or expression variable of the other
  abbrev pub Interfere : p.Statement → p.Statement → Type 0
  Interfere s t = (x : ℕ) × ((IsTarget g (In_stmt (bare_statement s)) x × IsUsed g (In_stmt (bare_statement t)) x)
      ⊎ (IsUsed g (In_stmt (bare_statement s)) x × IsTarget g (In_stmt (bare_statement t)) x))

  -- a later process statement, which begins here, interferes with this one
  abbrev pub ClashesIn : p.Statement → p.Statements → Place → Type 0
  ClashesIn s p.NoStatement at = ⊥
  ClashesIn s (p.AndThen t rest) at = ((place_of t ≡ at) × Interfere s t) ⊎ ClashesIn s rest at

  -- I1 at a process statement that clashes with an earlier one
  abbrev pub SplitBreaks : p.Statements → Place → Type 0
  SplitBreaks p.NoStatement at = ⊥
  SplitBreaks (p.AndThen s rest) at = ClashesIn s rest at ⊎ SplitBreaks rest at

  -- the variable is passed once more, here
  abbrev pub Repeats : ℕ → p.Actuals → Place → Type 0
  Repeats x p.Nothing at = ⊥
  Repeats x (p.Pass (p.ByValue e) rest) at = Repeats x rest at
  Repeats x (p.Pass (p.ByReference (p.Entire y here ss)) rest) at = ((x ≡ y) × (here ≡ at)) ⊎ Repeats x rest at

  -- I4 at a variable that was passed before
  abbrev pub CallRepeats : p.Actuals → Place → Type 0
  CallRepeats p.Nothing at = ⊥
  CallRepeats (p.Pass (p.ByValue e) rest) at = CallRepeats rest at
  CallRepeats (p.Pass (p.ByReference (p.Entire y here ss)) rest) at = Repeats y rest at ⊎ CallRepeats rest at

  -- an implicit variable of the block is passed here
  abbrev pub PassesImplicit : ℕ → p.Actuals → Place → Type 0
  PassesImplicit f p.Nothing at = ⊥
  PassesImplicit f (p.Pass (p.ByValue e) rest) at = PassesImplicit f rest at
  PassesImplicit f (p.Pass (p.ByReference (p.Entire y here ss)) rest) at = ((here ≡ at) × Implicit g f y)
      ⊎ PassesImplicit f rest at

  -- what is broken at a site
  abbrev pub SiteBreaks : Site → Rule → Place → Type 0
  SiteBreaks (SplitsAt parts) rule.I1 at = SplitBreaks parts at
  SiteBreaks (SpreadsAt here x s) rule.I2 at = (here ≡ at) × (y : ℕ) × IsTarget g (In_stmt (bare_statement s)) y
  SiteBreaks (LoopsAt x here s) rule.I3 at = (here ≡ at) × IsTarget g (In_stmt (bare_statement s)) x
  SiteBreaks (CallsAt f here args) rule.I4 at = CallRepeats args at
  SiteBreaks (CallsAt f here args) rule.I5 at = PassesImplicit f args at
  SiteBreaks site r at = ⊥

  -- where a statement stands that a function may not have
  abbrev pub SiteStops : Site → Place → Type 0
  SiteStops (StopsAt here) at = here ≡ at
  SiteStops (CallsAt f here args) at = (here ≡ at) × LeadsToStop g f
  SiteStops site at = ⊥

module _ (c : p.Program) where
  -- what a program breaks
  abbrev pub Interferes : Rule → Place → Type 0
  Interferes rule.I6 at = (b : ℕ) × (k : p.Block) × (slice_get c.blocks b ≡ Some k) × (k.at ≡ at)
      × IsCalledInside (without_places c) b × (x : ℕ) × Implicit (without_places c) b x × (2 ≤ x)
  Interferes rule.I7 at = (b : ℕ) × (k : p.Block) × (slice_get c.blocks b ≡ Some k) × IsFunction (without_places c) b
      × (x : ℕ)
      × IsMember x k.formals × (i : ast_x.Variable) × (slice_get c.variables x ≡ Some i) × (i.role ≡ role.Reference)
      × (i.at ≡ at)
  Interferes rule.I8 at = (b : ℕ) × (k : p.Block) × (slice_get c.blocks b ≡ Some k) × (k.at ≡ at)
      × IsFunction (without_places c) b × (x : ℕ) × ImplicitTarget (without_places c) b x
  Interferes rule.I9 at = (b : ℕ) × (k : p.Block) × (slice_get c.blocks b ≡ Some k) × IsFunction (without_places c) b
      × (site : Site) × IsSite site (statement_sites k.body) × SiteStops (without_places c) site at
  Interferes r at = (b : ℕ) × (k : p.Block) × (slice_get c.blocks b ≡ Some k) × (site : Site)
      × IsSite site (statement_sites k.body) × SiteBreaks (without_places c) site r at
