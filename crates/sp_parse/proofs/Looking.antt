-- How the first token is looked at.
use Rattle.std.proofs.Common.{◌≡◌, ◌<◌, ◌≤◌, true, false, List, [], ◌∷◌, length, Some, refl}
use Rattle.std.proofs.Common.{sym as back_of, ap, ◌∙◌, subst, arith, slice_index_or}
use Rattle.sp_base.specs.declared.halt.Halt.{Halt}
use Rattle.sp_base.specs.declared.halt.Halt.TheVariants as halt
use Rattle.sp_base.specs.declared.rule.Rule.TheVariants as rule
use Rattle.sp_tree.specs.declared.token.Token.{Token}
use Rattle.sp_tree.specs.declared.token.Kind.{Kind}
use Rattle.sp_tree.specs.Symbols.{AToken}
use Rattle.sp_tree.specs.Table.{row_entry, rows, look, kind_is, token}
use Rattle.sp_parse.specs.declared.source.Source.{Source}
use Rattle.sp_parse.specs.declared.source.Tokens.{Tokens}
use Rattle.sp_parse.specs.Reads.{TokensFit, HasTokens, breaks, Looks, Skips, Fails, Takes, Differs}
use Rattle.sp_parse.specs.Reads.{Expects, no_kind, first_failure, behind}
use Rattle.sp_parse.proofs.Steps.{step_takes, step_fails, step_ends, look_token, kind_is-same, kind_is-other}
use Rattle.sp_parse.proofs.Pending.{ends_by, ends_failed, has_failed}

pub no_tokens : (ts : List Token) → length ts < 1 → ts ≡ []
no_tokens [] h = refl
no_tokens (t ∷ ts) h = absurd (omega arith)

skipped : (ts : List Token) → 1 ≤ length (behind ts) → length (behind ts) < length ts
skipped [] h = absurd (omega (arith, h))
skipped (t ∷ ts) h = omega arith

pub looks_none : (source : Source) (old new : Tokens) → HasTokens source old.rest.now → length old.rest.now < 1
    → Fails source (halt.Refused (record { rule = rule.G2; at = source.end })) old new
    → Looks source old new (record { kind = no_kind; from = 0; to = 0; at = source.end })
looks_none source old new a h c =
    let none : old.rest.now ≡ [] = no_tokens old.rest.now h in
    record {
      same = λ fine. has_failed old.failed new.failed _ c.failed fine;
      leads = λ s q r x. ends_failed source old.failed new.failed (record { rule = rule.G2; at = source.end })
          old.rest.now new.rest.now (s ∷ q) (s ∷ q) r c.failed
          (λ _. ap (λ ts. breaks source ts (s ∷ q)) none ∙ step_ends source s q
          ∙ ap (λ p. Some (record { rule = rule.G2; at = p })) (back_of a.end)) x;
      some = λ h. absurd (omega (arith, h, ap length c.none));
      none = λ h. refl;
      fits = record { order = omega arith; within = omega arith; number = λ e. absurd cc };
      shorter = c.shorter;
      ready = c.ready;
    }

looked : (source : Source) (old : Tokens) (ts : List Token) (other : Token) → old.rest.now ≡ ts
    → HasTokens source old.rest.now → 1 ≤ length ts → Looks source old old (slice_index_or ts 0 other)
looked source old [] other e a h = absurd (omega (arith, h))
looked source old (t ∷ ts) other e a h = record {
  same = λ fine. (fine, refl, (ts, e));
  leads = λ s q r x. x;
  some = λ h. (refl, refl, (ts, e));
  none = λ x. absurd (omega (arith, h, x, ap length e));
  fits = (subst (TokensFit source.text.now) e a.fit).0;
  shorter = omega arith;
  ready = a;
}

pub looks_first : (source : Source) (old : Tokens) (other : Token) → HasTokens source old.rest.now
    → 1 ≤ length old.rest.now → Looks source old old (slice_index_or old.rest.now 0 other)
looks_first source old other a h = looked source old old.rest.now other refl a h

pub expects : {source : Source} {old mid new : Tokens} {t : Token} (k : Kind) → Looks source old mid t → t.kind ≡ k
    → Skips source mid new → Expects source k old new t
expects {source} {old} {mid} {new} {t} k a e b = record {
  ends = λ fine.
      let (old_fine, same, (u, begins)) = a.same (back_of b.failed ∙ fine) in
      (old_fine, e, back_of same ∙ begins ∙ ap (λ ts. t ∷ ts) (back_of (b.rest ∙ ap behind begins)));
  leads = λ q r x. a.leads (AToken k) q r (ends_by source mid.failed new.failed mid.rest.now new.rest.now
      (AToken k ∷ q) q r b.failed
      (λ fine.
      let (_, _, (u, begins)) = a.same fine in
      ap (λ ts. breaks source ts (AToken k ∷ q)) begins
      ∙ step_takes source (AToken k) t u (row_entry k [] token)
      (ap (look (rows (AToken k))) e ∙ look_token k k true (kind_is-same k)) refl q
      ∙ ap (λ ts. breaks source ts q) (back_of (b.rest ∙ ap behind begins))) x);
  fits = a.fits;
  shorter = omega (arith, a.shorter, b.shorter);
  less = λ h.
      let here : 1 ≤ length (behind mid.rest.now) = subst (λ ts. 1 ≤ length ts) b.rest h in
      omega (arith, a.shorter, skipped mid.rest.now here, ap length b.rest);
  ready = b.ready;
}

pub expects_not : {source : Source} {old mid new : Tokens} {t : Token} {why : Halt} (k : Kind)
    → Looks source old mid t → (t.kind ≡ k → ⊥) → why ≡ halt.Refused (record { rule = rule.G1; at = t.at })
    → Fails source why mid new → Expects source k old new t
expects_not {source} {old} {mid} {new} {t} {why} k a n is c =
    let failed : new.failed ≡ first_failure mid.failed (halt.Refused (record { rule = rule.G1; at = t.at })) =
    c.failed ∙ ap (first_failure mid.failed) is in
    record {
      ends = λ fine. has_failed mid.failed new.failed _ failed fine;
      leads = λ q r x. a.leads (AToken k) q r (ends_failed source mid.failed new.failed
          (record { rule = rule.G1; at = t.at }) mid.rest.now new.rest.now (AToken k ∷ q) q r failed
          (λ fine.
          let (_, _, (u, begins)) = a.same fine in
          ap (λ ts. breaks source ts (AToken k ∷ q)) begins
          ∙ step_fails source (AToken k) t u
          (look_token k t.kind false (kind_is-other k t.kind (kind_is k t.kind) refl n)) refl q) x);
      fits = a.fits;
      shorter = omega (arith, a.shorter, c.shorter);
      less = λ h. absurd (omega (arith, h, ap length c.none));
      ready = c.ready;
    }

pub passes : {source : Source} {old mid new : Tokens} {t : Token} {k : Kind} → Looks source old mid t → t.kind ≡ k
    → 1 ≤ length mid.rest.now → Skips source mid new → (t : Token) × (t.kind ≡ k) × Takes source t old new
passes {source} {old} {mid} {new} {t} a e h b =
    let (failed, same, (u, begins)) = a.some h in
    let all : old.rest.now ≡ t ∷ new.rest.now =
    back_of same ∙ begins ∙ ap (λ ts. t ∷ ts) (back_of (b.rest ∙ ap behind begins)) in
    (t, e, record { failed = b.failed ∙ failed; all = all; less = omega (arith, ap length all); ready = b.ready })

pub passes_not : {source : Source} {old mid : Tokens} {t : Token} (k : Kind) → Looks source old mid t
    → (t.kind ≡ k → ⊥) → Differs source k old mid
passes_not {t = t} k a n = record {
  token = t;
  looks = a;
  differs = λ fine. kind_is-other k t.kind (kind_is k t.kind) refl n;
}

pub passes_none : {source : Source} {old mid : Tokens} {t : Token} (k : Kind) → Looks source old mid t
    → length mid.rest.now < 1 → Differs source k old mid
passes_none {t = t} k a h = record {
  token = t;
  looks = a;
  differs = λ fine. let (_, _, (u, begins)) = a.same fine in absurd (omega (arith, h, ap length begins));
}
