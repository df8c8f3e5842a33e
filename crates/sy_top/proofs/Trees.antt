-- What the tokens of a source, its tree and the rules of typing say of the source.
use Rattle.std.proofs.Common.{◌≡◌, ℕ, true, List, [], IfOk, Some, None, sym, ap, ◌∙◌, subst}
use Rattle.std.specs.Result.{IsErrOf}
use Rattle.std.specs.Prelude.{Result, Ok, Err}
use Rattle.sy_lex.specs.declared.Token.{Token}
use Rattle.sy_lex.specs.Tokens.{HasTokens, HasNoTokens, IsOnly, IsStuck}
use Rattle.sy_note.specs.declared.Code.{Code}
use Rattle.sy_note.specs.declared.Code.TheVariants.{Lexical, Grammar, NotBuilt}
use Rattle.sy_note.specs.declared.Diagnostic.{Diagnostic}
use Rattle.sy_note.specs.declared.Spot.{Spot}
use Rattle.sy_rules.specs.Faults.{first_broken}
use Rattle.sy_rules.specs.Units.{broken_rules}
use Rattle.sy_rulelaws.specs.Typing.{is_typing}
use Rattle.sy_tree.specs.declared.tree.Unit.{Unit as SourceUnit}
use Rattle.sy_tree.specs.Units.{IsUnit}
use Rattle.sy_top.specs.Sources.{IsSource, IsNoSource, IsAcceptedSource, IsNotAccepted, Breaks}

-- an error is the same whatever the call would have answered
pub another : {T U E : Type 0} (e d : E) → IsErrOf {T = T} (Err e) d → IsErrOf {T = U} (Err e) d
another e d h = let same : e ≡ d = cc in ap (λ x. Err x) same

module _ (bytes : List ℕ) (toks : List Token) (lexed : HasTokens bytes toks) (only : IsOnly bytes toks) where
  tree_by : (v : SourceUnit) → IsSource bytes v → IsUnit toks v
  tree_by v s = subst (λ t. IsUnit t v) (only s.tokens s.lexed) s.parsed

  pub one_tree : {E : Type 0} (r : Result SourceUnit E) → IfOk r (λ u. (v : SourceUnit) → IsUnit toks v → v ≡ u) → IfOk r (λ u. (v : SourceUnit) → IsSource bytes v → v ≡ u)
  one_tree (Ok u) h = λ v s. h v (tree_by v s)
  one_tree (Err e) h = tt

  pub no_tree : (d : Diagnostic) → d.code ≡ Grammar → ((v : SourceUnit) → IsUnit toks v → ⊥) → IsNoSource bytes d
  no_tree d grammar none = (subst (λ c. Breaks bytes c d.spot) (sym grammar) (toks, lexed, none), λ v s. none v (tree_by v s))

pub no_tokens : (bytes : List ℕ) (d : Diagnostic) → d.code ≡ Lexical → IsStuck bytes d.spot → HasNoTokens bytes → IsNoSource bytes d
no_tokens bytes d lexical stuck none = (subst (λ c. Breaks bytes c d.spot) (sym lexical) (stuck, none), λ v s. none s.tokens s.lexed)

-- ---- the rules of typing

-- what is no source is no accepted one
pub not_a_source : (bytes : List ℕ) (d : Diagnostic) → IsNoSource bytes d → IsNotAccepted bytes d
not_a_source bytes d none = (none.0, λ v a. none.1 v a.source)

some_broken : (ds : List Diagnostic) (d : Diagnostic) → first_broken ds ≡ Some d → ds ≡ [] → ⊥
some_broken ds d first none = let nothing : first_broken ds ≡ None = ap first_broken none in absurd cc

module _ (bytes : List ℕ) (unit : SourceUnit) (source : IsSource bytes unit) (only : (v : SourceUnit) → IsSource bytes v → v ≡ unit) where
  typing_broken : (c : Code) (s : Spot) → is_typing c ≡ true → first_broken (broken_rules unit) ≡ Some (record { spot = s; code = c }) → Breaks bytes c s
  typing_broken Lexical s t first = absurd cc
  typing_broken Grammar s t first = absurd cc
  typing_broken NotBuilt s t first = absurd cc
  typing_broken c s t first = (unit, source, first)

  pub accepted_if : {E : Type 0} (r : Result SourceUnit E) → IfOk r (λ u. u ≡ unit) → IfOk r (λ u. broken_rules u ≡ []) → IfOk r (IsAcceptedSource bytes)
  accepted_if (Ok u) same ok = record { source = subst (IsSource bytes) (sym same) source; unbroken = ok }
  accepted_if (Err e) same ok = tt

  pub only_accepted : {E : Type 0} (r : Result SourceUnit E) → IfOk r (λ u. u ≡ unit) → IfOk r (λ u. (v : SourceUnit) → IsAcceptedSource bytes v → v ≡ u)
  only_accepted (Ok u) same = λ v a. only v a.source ∙ sym same
  only_accepted (Err e) same = tt

  pub broken_source : (d : Diagnostic) → is_typing d.code ≡ true → first_broken (broken_rules unit) ≡ Some d → IsNotAccepted bytes d
  broken_source d t first = (
    typing_broken d.code d.spot t first,
    λ v a. some_broken (broken_rules unit) d first (ap broken_rules (sym (only v a.source)) ∙ a.unbroken),
  )
