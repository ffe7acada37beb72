-- What the phases and the commands make of a text is one thing. So a text has one answer.
use Rattle.std.proofs.Common.{◌≡◌, inl, inr, ℕ, ◌<◌, ◌≤◌, List, length, Some, refl, sym, ◌∙◌, ap, subst, arith}
use Rattle.sp_base.specs.declared.halt.Refusal.{Refusal}
use Rattle.sp_base.specs.declared.rule.Rule.TheVariants as rule
use Rattle.sp_code.specs.Places.{tree_length}
use Rattle.sp_code.specs.declared.code.Parts.{Parts}
use Rattle.sp_codefile.specs.CodeText.{IsTextOf as IsTextOfCode}
use Rattle.sp_front.specs.Codes.{BreaksLength, HasListing}
use Rattle.sp_execute.specs.Follows.{IsMeant, IsUnfitAt}
use Rattle.sp_format.specs.Formats.{HasLayout, HasNoLayout}
use Rattle.sp_front.specs.Checks.{FirstBrokenUpToTypes, IsChecked}
use Rattle.sp_front.specs.Compiles.{FirstBrokenOfPhases, IsAccepted}
use Rattle.sp_journal.specs.declared.entry.Entry.{Entry}
use Rattle.sp_journal.specs.declared.entry.Journal.{Journal}
use Rattle.sp_journal.specs.declared.version.Version.{Version}
use Rattle.sp_journal.specs.Texts.{IsTextOf}
use Rattle.sp_meaning.specs.LocalWork.{RunInput}
use Rattle.sp_meaning.specs.Runs.{IsDisjointRun}
use Rattle.sp_scan.proofs.TokenPrefixes.{too_long}
use Rattle.sp_varsets.specs.SetsText.{IsSetsText}
use Rattle.sp_tree.specs.Bare.{without_places}
use Rattle.sp_tree.specs.Places.{start}
use Rattle.sp_tree.specs.PlainChecked as c
use Rattle.sp_varsets.specs.AreSets.{AreSets}
use Rattle.sp_varsets.specs.declared.sets.Sets.{Sets}
use Rattle.sp_words.specs.declared.command.Command.{Command}
use Rattle.sp_words.specs.declared.command.Command.TheVariants as command
use Rattle.superpascal.specs.Texts.{FirstBrokenFor, FirstBroken, HasCodeText, HasSets, IsDisjointText}
use Rattle.superpascal.specs.Texts.{AcceptedFor, IsAcceptedText}
use Rattle.superpascal.specs.Texts.{Makes, asks_all, asks_text, file_of}

pub record Laws : Type 0 where
  -- by characters, grammar, names and types
  pub tree : (text : List ℕ) (p q : c.Program) → IsChecked text p → IsChecked text q → p ≡ q
  pub first : (text : List ℕ) (a b : Refusal) → FirstBrokenUpToTypes text a → FirstBrokenUpToTypes text b → a ≡ b
  pub not_both : (text : List ℕ) (p : c.Program) (r : Refusal) → IsChecked text p → FirstBrokenUpToTypes text r → ⊥
  -- by all phases
  pub any_first : (text : List ℕ) (a b : Refusal) → FirstBrokenOfPhases text a → FirstBrokenOfPhases text b → a ≡ b
  pub accepted_or : (text : List ℕ) (p : c.Program) (r : Refusal) → IsAccepted text p → FirstBrokenOfPhases text r → ⊥
  pub disjoint : (text : List ℕ) (p : c.Program) → IsAccepted text p → (g : RunInput) → g.program ≡ without_places p
      → IsDisjointRun g
  -- by `format`
  pub layout : (text a b : List ℕ) → HasLayout text a → HasLayout text b → a ≡ b
  pub no_layout : (text : List ℕ) (a b : Refusal) → HasNoLayout text a → HasNoLayout text b → a ≡ b
  pub layout_or : (text out : List ℕ) (r : Refusal) → HasLayout text out → HasNoLayout text r → ⊥
  -- by the text of the sets
  pub sets_text : (p : c.Program) (s t : Sets) (a b : List ℕ) → AreSets p s → AreSets p t → IsSetsText p s a
      → IsSetsText p t b → a ≡ b
  -- by the listing
  pub listing : (text a b : List ℕ) → HasListing text a → HasListing text b → a ≡ b
  -- by the text of the code
  pub code_text : (text a b : List ℕ) → HasCodeText text a → HasCodeText text b → a ≡ b
  -- by the code of a file
  pub code : (p q : Parts) (bytes : List ℕ) → IsTextOfCode p bytes → IsTextOfCode q bytes → p ≡ q
  -- by `replay`
  pub journal : (v w : Version) (j k : Journal) (bytes : List ℕ) → IsTextOf v j bytes → IsTextOf w k bytes → j ≡ k
  pub unfit : (g : RunInput) (es : List Entry) (m n : ℕ) → IsUnfitAt g es m → IsUnfitAt g es n → m ≡ n
  pub unfit_or : (g : RunInput) (es : List Entry) (n : ℕ) → IsMeant g es → IsUnfitAt g es n → ⊥

module _ (l : Laws) (text : List ℕ) where
  one_length : (a b : Refusal) → BreaksLength text a → BreaksLength text b → a ≡ b
  one_length a b (_, _, _, x) (_, _, _, y) = x ∙ sym y

  -- a text breaks one rule first
  pub one_rule : (a b : Refusal) → FirstBroken text a → FirstBroken text b → a ≡ b
  one_rule a b (inl x) (inl y) = l.any_first text a b x y
  one_rule a b (inl x) (inr y) = absurd (l.accepted_or text y.0 a y.1 x)
  one_rule a b (inr x) (inl y) = absurd (l.accepted_or text x.0 b x.1 y)
  one_rule a b (inr x) (inr y) = one_length a b x y

  -- and none where it is kept
  pub kept_or : (r : Refusal) → IsAcceptedText text → FirstBroken text r → ⊥
  kept_or r k (inl x) = l.accepted_or text k.0 r k.1 x
  kept_or r (p, (has_tree, _), short) (inr (q, (also, _), long, _)) =
      too_many (tree_length (without_places p)) (tree_length (without_places q))
      (ap (λ (p : c.Program). tree_length (without_places p)) (l.tree text p q has_tree also)) short long
    where
      too_many : (m n : ℕ) → m ≡ n → m ≤ 1048576 → 1048576 < n → ⊥
      too_many m n e h k = omega arith

  pub one_break : (d : Command) (a b : Refusal) → FirstBrokenFor d text a → FirstBrokenFor d text b → a ≡ b
  one_break (command.Sets file) a b x y = l.first text a b x y
  one_break (command.Format file) a b x y = l.no_layout text a b x y
  one_break (command.Exec asked) a b x y = absurd x
  one_break _ a b x y = one_rule a b x y

  -- a command that refuses the text for no rule refuses it for none
  pub keeps_or : (d : Command) (r : Refusal) → AcceptedFor d text → FirstBrokenFor d text r → ⊥
  keeps_or (command.Sets file) r k x = l.not_both text k.0 r k.1 x
  keeps_or (command.Format file) r k x = l.layout_or text k.0 r k.1 x
  keeps_or (command.Exec asked) r k x = x
  keeps_or _ r k x = kept_or r k x

  one_sets : (a b : List ℕ) → HasSets text a → HasSets text b → a ≡ b
  one_sets a b (p, h, s, are, x) (q, k, t, also, y) =
      let same : q ≡ p = l.tree text q p k h in
      l.sets_text p s t a b are (subst (λ (z : c.Program). AreSets z t) same also) x
      (subst (λ (z : c.Program). IsSetsText z t b) same y)

  pub made_once : (d : Command) (a b n m : List ℕ) → Makes d text a n → Makes d text b m → (a ≡ b) × (n ≡ m)
  made_once (command.Check file) a b n m x y = (x.1 ∙ sym y.1, x.2 ∙ sym y.2)
  made_once (command.Code file) a b n m x y = (l.listing text a b x.0 y.0, x.1 ∙ sym y.1)
  made_once (command.Sets file) a b n m x y = (one_sets a b x.0 y.0, x.1 ∙ sym y.1)
  made_once (command.Format file) a b n m x y = (l.layout text a b x.0 y.0, x.1 ∙ sym y.1)
  made_once (command.Build file) a b n m ((of_a, _), x) ((of_b, _), y) = (l.code_text text a b of_a of_b, x ∙ sym y)
  made_once _ _ _ _ _ x _ = absurd x

  -- a text that is kept is disjoint
  pub disjoint_text : IsAcceptedText text → IsDisjointText text
  disjoint_text (t, accepted, _) p (tree, is, same) g e = let (is_checked, _) = accepted in
      l.disjoint text t accepted g (e ∙ (sym same ∙ ap without_places (l.tree text tree t is is_checked)))

-- a text with a code breaks no rule
pub code_text_keeps : (text out : List ℕ) → HasCodeText text out → IsAcceptedText text
code_text_keeps text out h = (h.0, h.1, h.2)

-- of a text of which the command makes something it refuses none
pub made_keeps : (d : Command) (text out line : List ℕ) → Makes d text out line → AcceptedFor d text
made_keeps (command.Check file) text out line m = m.0
made_keeps (command.Code file) text out line ((p, accepted, short, _, _, _), _) = (p, accepted, short)
made_keeps (command.Sets file) text out line ((p, is_checked, _, _, _), _) = (p, is_checked)
made_keeps (command.Format file) text out line m = (out, m.0)
made_keeps (command.Build file) text out line ((is_text, _), _) = code_text_keeps text out is_text
made_keeps _ _ _ _ m = absurd m

pub made_asks : (d : Command) (text out line : List ℕ) → Makes d text out line → asks_text d
made_asks (command.Run asked) text out line m = m
made_asks (command.Gen size workers) text out line m = m
made_asks (command.Replay asked) text out line m = m
made_asks (command.Exec asked) text out line m = m
made_asks _ _ _ _ _ = tt

pub keeps_all : (d : Command) (text : List ℕ) → asks_all d → AcceptedFor d text → IsAcceptedText text
keeps_all (command.Sets file) text q k = absurd q
keeps_all (command.Format file) text q k = absurd q
keeps_all (command.Exec asked) text q k = absurd q
keeps_all _ _ _ k = k

-- the command that runs a code file
abbrev pub asks_execution : Command → Type 0
asks_execution (command.Exec asked) = Unit {0}
asks_execution _ = ⊥

-- the command loads a text under this name first, and no code file
abbrev pub IsAbout : Command → List ℕ → Type 0
IsAbout d name = (file_of d ≡ Some name) × (asks_execution d → ⊥)

-- every command that is about a text refuses one that is longer than a text may be
pub long_breaks : (d : Command) (name all : List ℕ) → IsAbout d name → 1048576 < length all
    → FirstBrokenFor d all (record { rule = rule.L1; at = start })
long_breaks (command.Sets file) name all about h = inl (inl (too_long all start refl h))
long_breaks (command.Format file) name all about h = inl (inl (too_long all start refl h))
long_breaks (command.Exec asked) name all about h = absurd (about.1 tt)
long_breaks _ _ all _ h = inl (inl (inl (inl (too_long all start refl h))))

pub laws : ((text : List ℕ) (p q : c.Program) → IsChecked text p → IsChecked text q → p ≡ q)
    → ((text : List ℕ) (a b : Refusal) → FirstBrokenUpToTypes text a → FirstBrokenUpToTypes text b → a ≡ b)
    → ((text : List ℕ) (p : c.Program) (r : Refusal) → IsChecked text p → FirstBrokenUpToTypes text r → ⊥)
    → ((text : List ℕ) (a b : Refusal) → FirstBrokenOfPhases text a → FirstBrokenOfPhases text b → a ≡ b)
    → ((text : List ℕ) (p : c.Program) (r : Refusal) → IsAccepted text p → FirstBrokenOfPhases text r → ⊥)
    → ((text : List ℕ) (p : c.Program) → IsAccepted text p → (g : RunInput) → g.program ≡ without_places p
    → IsDisjointRun g)
    → ((text a b : List ℕ) → HasLayout text a → HasLayout text b → a ≡ b)
    → ((text : List ℕ) (a b : Refusal) → HasNoLayout text a → HasNoLayout text b → a ≡ b)
    → ((text out : List ℕ) (r : Refusal) → HasLayout text out → HasNoLayout text r → ⊥)
    → ((p : c.Program) (s t : Sets) (a b : List ℕ) → AreSets p s → AreSets p t → IsSetsText p s a → IsSetsText p t b
    → a ≡ b)
    → ((text a b : List ℕ) → HasListing text a → HasListing text b → a ≡ b)
    → ((text a b : List ℕ) → HasCodeText text a → HasCodeText text b → a ≡ b)
    → ((p q : Parts) (bytes : List ℕ) → IsTextOfCode p bytes → IsTextOfCode q bytes → p ≡ q)
    → ((v w : Version) (j k : Journal) (bytes : List ℕ) → IsTextOf v j bytes → IsTextOf w k bytes → j ≡ k)
    → ((g : RunInput) (es : List Entry) (m n : ℕ) → IsUnfitAt g es m → IsUnfitAt g es n → m ≡ n)
    → ((g : RunInput) (es : List Entry) (n : ℕ) → IsMeant g es → IsUnfitAt g es n → ⊥)
    → Laws
laws s t u v w d x y z o q f c j m n = record {
  tree = s;
  first = t;
  not_both = u;
  any_first = v;
  accepted_or = w;
  disjoint = d;
  layout = x;
  no_layout = y;
  layout_or = z;
  sets_text = o;
  listing = q;
  code_text = f;
  code = c;
  journal = j;
  unfit = m;
  unfit_or = n;
}
