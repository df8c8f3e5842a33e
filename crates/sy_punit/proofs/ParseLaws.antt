-- What is read of the qualified tokens is the unit that they are.
use Rattle.std.proofs.Common.{◌≡◌, ◌≢◌, List, [], Option, Some, None, sym, ap, ◌∙◌, subst}
use Rattle.std.specs.Prelude.{Err, IsErrOf}
use Rattle.sy_cursor.specs.declared.cursor.Stop.{Stop}
use Rattle.sy_cursor.specs.declared.cursor.Stop.TheVariants.{Grammar, Memory}
use Rattle.sy_lex.specs.declared.Token.{Token}
use Rattle.sy_note.specs.declared.Code.TheVariants as code
use Rattle.sy_note.specs.declared.Diagnostic.{Diagnostic}
use Rattle.sy_note.specs.declared.FrontStop.{FrontStop}
use Rattle.sy_note.specs.declared.FrontStop.TheVariants.{Refused}
use Rattle.sy_tree.specs.declared.tree.Unit.{Unit as SourceUnit}
use Rattle.sy_tree.specs.Qualification.{qualified}
use Rattle.sy_tree.specs.Units.{WholeUnit, IsUnit}
use Rattle.sy_punit.specs.Reader.{read_unit}
use Rattle.sy_punit.proofs.UnitReadLemmas.{unit_read}
use Rattle.sy_punit.proofs.UnitSoundLemmas.{unit_is}

module _ (tokens qs : List Token) (same : qs ≡ qualified tokens) where
  pub unit_found : (u : SourceUnit) (rest : List Token) → read_unit qs ≡ Some (u, rest) → IsUnit tokens u
  unit_found u rest h = subst (λ ts. WholeUnit u ts []) same (unit_is qs rest u h).0

  -- the unit that the tokens are is read
  answer : (v : SourceUnit) → IsUnit tokens v → read_unit qs ≡ Some (v, [])
  answer v d = unit_read v qs (subst (λ ts. WholeUnit v ts []) (sym same) d)

  one : (u v : SourceUnit) (rest more : List Token) → ◌≡◌ {A = Option (SourceUnit × List Token)} (Some (u, rest)) (Some (v, more)) → v ≡ u
  one u v rest more h = let e : ◌≡◌ {A = SourceUnit × List Token} (u, rest) (v, more) = cc in sym (ap (λ p. p.0) e)

  pub only_unit : (u : SourceUnit) (rest : List Token) → read_unit qs ≡ Some (u, rest) → (v : SourceUnit) → IsUnit tokens v → v ≡ u
  only_unit u rest h v d = one u v rest [] (sym h ∙ answer v d)

  none : (v : SourceUnit) (more : List Token) → ◌≡◌ {A = Option (SourceUnit × List Token)} None (Some (v, more)) → ⊥
  none v more h = absurd cc

  pub no_unit : read_unit qs ≡ None → (v : SourceUnit) → IsUnit tokens v → ⊥
  no_unit h v d = none v [] (sym h ∙ answer v d)

-- the code of a refusal that was answered
pub code_kept : (r : FrontStop) (d : Diagnostic) → ((e : Diagnostic) × (r ≡ Refused e) × (e.code ≡ code.Grammar)) → IsErrOf {T = SourceUnit} (Err r) (Refused d) → d.code ≡ code.Grammar
code_kept r d answered is = let same : answered.0 ≡ d = cc in ap (λ e. e.code) (sym same) ∙ answered.2

pub no_memory : (s : Stop) → s ≡ Grammar → s ≢ Memory
no_memory s is m = let clash : Grammar ≡ Memory = sym is ∙ m in absurd cc
