-- How formal parameters are read.
use Rattle.std.proofs.Common.{Bool, true, false, [], ◌∷◌, refl, ap}
use Rattle.sp_tree.specs.declared.syntax.SynFormal.{SynFormal}
use Rattle.sp_tree.specs.declared.syntax.SynGroup.{SynGroup}
use Rattle.sp_tree.specs.Words as w
use Rattle.sp_tree.specs.Symbols.{AFormal}
use Rattle.sp_tree.specs.Table as row
use Rattle.sp_parse.specs.declared.source.Source.{Source}
use Rattle.sp_parse.specs.declared.source.Tokens.{Tokens}
use Rattle.sp_parse.specs.BlockProductions.{group}
use Rattle.sp_parse.specs.Productions.{single, itself}
use Rattle.sp_parse.specs.Reads.{HasTokens, Passes, Parses}
use Rattle.sp_parse.proofs.Pending.{begin, read_as, pass_row}
use Rattle.sp_parse.proofs.Turns.{name_turn, none_if}

abbrev formal_of : Bool → SynGroup → SynFormal
formal_of by_reference g = record { by_reference = by_reference; names = g.names; kind = g.kind }

-- parameters by reference have a word before them
pub formal_is : {source : Source} {old mid new : Tokens} (b : Bool) (g : SynGroup) → HasTokens source old.rest.now
    → Passes source w.Var old mid b → Parses source group itself mid new g
    → Parses source (single AFormal) itself old new (formal_of b g)
formal_is true g a h p = read_as group.symbols [] (λ _. formal_of true g) (pass_row [] row.by_reference refl refl
    (begin a) h) p (λ us same _. ap (formal_of true) same)
formal_is false g a h p = read_as group.symbols [] (λ _. formal_of false g)
    (name_turn row.by_value refl refl (λ (name, (more, (_, (kind, _)))).
    record { by_reference = false; names = name ∷ more; kind = kind }) (λ t vs. refl) [] (begin a) h.looks
    (λ fine n. none_if _ n (none_if _ (h.differs fine) refl)) refl) p (λ us same _. ap (formal_of false) same)
