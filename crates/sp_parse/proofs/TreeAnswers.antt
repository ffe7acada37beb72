-- From the parts of the parser to the tree of a text.
use Rattle.std.proofs.Common.{◌≡◌, ℕ, ◌+◌, ◌≤◌, List, [], ◌∷◌, length, Some, None, Ok, Err, refl}
use Rattle.std.proofs.Common.{sym as back_of, ap, ◌∙◌, subst, ◌<◌, arith, slice_index_or}
use Rattle.sp_base.specs.declared.halt.Halt.{Halt}
use Rattle.sp_base.specs.declared.halt.Halt.TheVariants as halt
use Rattle.sp_base.specs.declared.halt.Refusal.{Refusal}
use Rattle.sp_base.specs.declared.rule.Rule.TheVariants as rule
use Rattle.sp_tree.specs.declared.token.Token.{Token}
use Rattle.sp_tree.specs.declared.syntax.Syntax.{Syntax}
use Rattle.sp_tree.specs.PlainSyntax.{Program}
use Rattle.sp_tree.specs.SyntaxOf.{program_of}
use Rattle.sp_tree.specs.Places.{start, place_behind, place_at}
use Rattle.sp_tree.specs.Grammar.{IsProgram}
use Rattle.sp_tree.specs.Viable.{Shallow}
use Rattle.sp_tree.specs.Scans.{IsTokens}
use Rattle.sp_tree.specs.First.{IsFirst}
use Rattle.sp_tree.specs.Breaches.{nesting, BreaksGrammar}
use Rattle.sp_tree.specs.Symbols.{AProgram}
use Rattle.sp_tree.specs.SymbolMachine.{RunEnd, Done, StuckAt, run}
use Rattle.sp_tree.specs.Stops.{GetsStuck}
use Rattle.sp_tree.proofs.FromTable.{from}
use Rattle.sp_tree.proofs.Wider.{wider_program}
use Rattle.sp_tree.proofs.Firsts.{first_broken, spells, none_broken}
use Rattle.sp_tree.specs.Derives.{none}
use Rattle.sp_parse.specs.declared.source.Source.{Source}
use Rattle.sp_parse.specs.declared.source.Tokens.{Tokens}
use Rattle.sp_parse.specs.Reads.{IsNestable, HasTokens, breaks, refused_by, EndsBy, Pending, Fails, Finishes}
use Rattle.sp_parse.specs.Reads.{first_failure}
use Rattle.sp_parse.specs.Parses.{SpellsWell, Parsed}
use Rattle.sp_parse.proofs.Pending.{ends_failed, has_failed, head}
use Rattle.sp_parse.proofs.Looking.{no_tokens}
use Rattle.sp_parse.proofs.TokenBounds.{all_fit}

-- the place behind what is passed
pub record PlaceSoFar (text rest : List ℕ) (line column : ℕ) : Type 0 where
  pub place_is : place_behind (record { line = line; column = column }) rest ≡ place_behind start text
  pub low : line + length rest ≤ 1 + length text
  pub left : column + length rest ≤ 1 + length text

pub is_ready : (source : Source) (ts : List Token) → source.end ≡ place_at source.text.now (length source.text.now)
    → IsTokens source.text.now ts → HasTokens source ts
is_ready source ts e h = record { end = e; fit = all_fit source.text.now ts h }

-- a refusal is that of the machine
stopped : (text : List ℕ) (ts : List Token) (f : Refusal) (x : RunEnd) → run (Some nesting) ts (AProgram ∷ []) ≡ x
    → refused_by text x ≡ Some f → GetsStuck text ts (AProgram ∷ []) f
stopped text ts f Done e h = absurd cc
stopped text ts f (StuckAt w us) e h = record { why = w; rest = us; proof = e; refusal_is = cc }

stops : (source : Source) (ts : List Token) (f : Refusal) → breaks source ts (AProgram ∷ []) ≡ Some f
    → GetsStuck source.text.now ts (AProgram ∷ []) f
unfolding breaks
stops source ts f h = stopped source.text.now ts f (run (Some nesting) ts (AProgram ∷ [])) refl h

first : (source : Source) (ts : List Token) (f : Refusal) → IsTokens source.text.now ts
    → breaks source ts (AProgram ∷ []) ≡ Some f → IsFirst (BreaksGrammar source.text.now ts) f
first source ts f h b = first_broken source.text.now ts h.scans f (stops source ts f b)

-- nothing may stand behind a program
nothing_behind : (source : Source) (t : Token) (us : List Token)
    → breaks source (t ∷ us) [] ≡ Some (record { rule = rule.G1; at = t.at })
unfolding breaks
nothing_behind source t us = refl

more_behind : (source : Source) (rest : List Token) (t : Token) (us : List Token) → rest ≡ t ∷ us
    → breaks source rest [] ≡ Some (record { rule = rule.G1; at = t.at })
more_behind source rest t us e = ap (λ l. breaks source l []) e ∙ nothing_behind source t us

-- a reading of a program that failed
pub refused : (source : Source) (old mid new : Tokens) {x : Program} (e : Halt) → old.failed ≡ None
    → IsTokens source.text.now old.rest.now
    → Pending source (AProgram ∷ []) (λ vs. vs.0) [] (λ _. x) old mid → Finishes source mid new → new.failed ≡ Some e
    → Parsed source.text.now old.rest.now (Err e)
refused source old mid new halt.Memory fine h p c failed = tt
refused source old mid new (halt.Refused f) fine h p c failed = first source old.rest.now f h
    (subst (λ o. EndsBy source o old.rest.now (AProgram ∷ []) (Some f)) fine
    (p.leads [] (Some f) (c.leads f failed)))

-- no token is left
pub finished : (source : Source) (old : Tokens) → length old.rest.now < 1 → Finishes source old old
finished source old h = record {
  done = λ fine. (fine, no_tokens old.rest.now h);
  leads = λ f failed. subst (λ o. EndsBy source o old.rest.now [] (Some f)) (back_of failed) refl;
}

-- tokens behind a program
begins : (ts : List Token) (other : Token) → 1 ≤ length ts → (u : List Token) × (ts ≡ slice_index_or ts 0 other ∷ u)
begins [] other h = absurd (omega (arith, h))
begins (t ∷ ts) other h = (ts, refl)

pub not_finished : (source : Source) (old new : Tokens) (other : Token) (why : Halt) → 1 ≤ length old.rest.now
    → why ≡ halt.Refused (record { rule = rule.G1; at = (slice_index_or old.rest.now 0 other).at })
    → Fails source why old new → Finishes source old new
not_finished source old new other why h is c =
    let t : Token = slice_index_or old.rest.now 0 other in
    let (us, q) = begins old.rest.now other h in
    let g : Refusal = record { rule = rule.G1; at = t.at } in
    let failed : new.failed ≡ first_failure old.failed (halt.Refused g) = c.failed ∙ ap (first_failure old.failed) is in
    record {
      done = λ fine. has_failed old.failed new.failed (halt.Refused g) failed fine;
      leads = λ f e. ends_failed source old.failed new.failed g old.rest.now new.rest.now [] [] (Some f) failed
          (λ _. more_behind source old.rest.now t us q)
          (subst (λ o. EndsBy source o new.rest.now [] (Some f)) (back_of e) refl);
    }

-- the tree
shallow : (source : Source) (ts : List Token) (p : Program) → IsProgram source.text.now IsNestable ts [] p
    → IsProgram source.text.now (Shallow nesting 0) ts [] p
shallow source ts p x = wider_program source.text.now IsNestable (Shallow nesting 0) (λ d us h g. h) x

spelled : (source : Source) (ts : List Token) (p : Program) → IsProgram source.text.now (Shallow nesting 0) ts [] p
    → SpellsWell source.text.now ts p
spelled source ts p x = record { spells = spells source.text.now ts p x; kept = none_broken source.text.now ts p x }

pub is_tree : (source : Source) (old new : Tokens) (tree : Syntax)
    → Pending source (AProgram ∷ []) (λ vs. vs.0) [] (λ _. program_of tree) old new → new.failed ≡ None
    → new.rest.now ≡ [] → Parsed source.text.now old.rest.now (Ok tree)
is_tree source old new tree p fine q =
    let text = source.text.now in
    let (vs, d, same) = (p.derives fine).1 new.rest.now tt none in
    let y : IsProgram text IsNestable old.rest.now [] vs.0 =
    subst (λ r. IsProgram text IsNestable old.rest.now r vs.0) q (from text IsNestable (head d)) in
    subst (SpellsWell text old.rest.now) (back_of same) (spelled source old.rest.now vs.0
    (shallow source old.rest.now vs.0 y))
