-- The table of newest numbers after it is written, what a look-up by it finds, and what leaving a scope takes away.
use Rattle.std.proofs.Common.{◌≡◌, ℕ, ◌+◌, ◌<◌, Bool, true, false, cond, List, [], ◌∷◌, ◌++◌, length, reverse, map, drop, slice_get, nat_le, Option, Some, None, refl, sym, ap, subst, ◌∙◌, zero, suc, arith}
use Rattle.std.proofs.lemmas.Bool.{false≢true}
use Rattle.std.proofs.lemmas.Bool.Decides.{same_from_decides}
use Rattle.std.proofs.lemmas.List.{reverse-append, reverse-reverse, length-reverse}
use Rattle.std.proofs.lemmas.Slice.Eq.{bytes_eq-Decides}
use Rattle.std.specs.List.{prefix_len}
use Rattle.std.specs.Map.{lookup}
use Rattle.std.specs.Option.{option_map, option_flatten}
use Rattle.std.specs.Str.{bytes_eq}
use Rattle.indexmap.specs.IndexMap.{insert_entry}
use Rattle.sy_rules.specs.declared.names.Entry.{Entry}
use Rattle.sy_rules.specs.declared.names.Named.{Named}
use Rattle.sy_rules.specs.declared.names.Signature.{Signature}
use Rattle.sy_rules.specs.Calls.{signature_at}
use Rattle.sy_rules.specs.Names.{look_up, outside}
use Rattle.sy_names.specs.declared.declarations.Declaration.{Declaration}
use Rattle.sy_names.specs.declared.newest.Newest.{Newest}
use Rattle.sy_names.specs.Index.{number_in, newest_of, IsIndexed, entry_of, is_within}

-- ---- tests of names

same_bytes : (x y : List ℕ) → x ≡ y → bytes_eq x y ≡ true
same_bytes x y e = (bytes_eq-Decides x y).1 e

equal_by : (x y : List ℕ) → bytes_eq x y ≡ true → x ≡ y
equal_by x y e = (bytes_eq-Decides x y).0 e

bytes_eq-sym : (x y : List ℕ) → bytes_eq x y ≡ bytes_eq y x
bytes_eq-sym x y =
    same_from_decides _ _ (bytes_eq-Decides x y) (λ e. sym (equal_by y x e), λ e. same_bytes y x (sym e))

-- two tests that are equal, one after the other
twice : {T : Type 0} (p q : Bool) (a b c : T) → p ≡ q → cond p a c ≡ cond q a (cond p b c)
twice true true a b c e = refl
twice false false a b c e = refl
twice true false a b c e = absurd (false≢true (sym e))
twice false true a b c e = absurd (false≢true e)

-- two tests of which one excludes the other, in either order
exchanged : {T : Type 0} (p q : Bool) (a b c : T) → (q ≡ true → p ≡ false) → cond p a (cond q b c) ≡ cond q b (cond p a c)
exchanged true true a b c e = absurd (false≢true (sym (e refl)))
exchanged true false a b c e = refl
exchanged false true a b c e = refl
exchanged false false a b c e = refl

false_by : (b : Bool) → (b ≡ true → ⊥) → b ≡ false
false_by true e = absurd (e refl)
false_by false e = refl

-- ---- the table

module _ {K V : Type 0} (bytes : K → List ℕ) (x : List ℕ) (k : K) (v : V) where
  pub lookup-insert_entry : (es : List (K × V))
      → lookup (λ q. bytes_eq x (bytes q)) (insert_entry (λ p q. bytes_eq (bytes p) (bytes q)) es k v)
      ≡ cond (bytes_eq (bytes k) x) (Some v) (lookup (λ q. bytes_eq x (bytes q)) es)
  lookup-insert_entry [] = ap (λ b. cond b (Some v) None) (bytes_eq-sym x (bytes k))
  lookup-insert_entry (e ∷ es) = by (bytes_eq (bytes k) (bytes e.0)) refl (lookup-insert_entry es)
    where
      by : (b : Bool) → bytes_eq (bytes k) (bytes e.0) ≡ b
          → lookup (λ q. bytes_eq x (bytes q)) (insert_entry (λ p q. bytes_eq (bytes p) (bytes q)) es k v) ≡ cond (bytes_eq (bytes k) x) (Some v) (lookup (λ q. bytes_eq x (bytes q)) es)
          → lookup (λ q. bytes_eq x (bytes q)) (cond b ((e.0, v) ∷ es) (e ∷ insert_entry (λ p q. bytes_eq (bytes p) (bytes q)) es k v))
          ≡ cond (bytes_eq (bytes k) x) (Some v) (cond (bytes_eq x (bytes e.0)) (Some e.1) (lookup (λ q. bytes_eq x (bytes q)) es))
      by true h rest =
          twice (bytes_eq x (bytes e.0)) (bytes_eq (bytes k) x) (Some v) (Some e.1) (lookup (λ q. bytes_eq x (bytes q)) es)
          (ap (bytes_eq x) (sym (equal_by (bytes k) (bytes e.0) h)) ∙ bytes_eq-sym x (bytes k))
      by false h rest =
          ap (cond (bytes_eq x (bytes e.0)) (Some e.1)) rest
          ∙ exchanged (bytes_eq x (bytes e.0)) (bytes_eq (bytes k) x) (Some e.1) (Some v) (lookup (λ q. bytes_eq x (bytes q)) es)
          (λ same. false_by _ (λ met. false≢true (sym h ∙ same_bytes (bytes k) (bytes e.0) (equal_by (bytes k) x same ∙ equal_by x (bytes e.0) met))))

pub option_flatten-cond : {T : Type 0} (b : Bool) (a : Option T) (c : Option (Option T)) → option_flatten (cond b (Some a) c) ≡ cond b a (option_flatten c)
option_flatten-cond true a c = refl
option_flatten-cond false a c = refl

-- ---- lists of declarations

pub reverse-push : (ds : List Declaration) (d : Declaration) → reverse (ds ++ d ∷ []) ≡ d ∷ reverse ds
reverse-push ds d = reverse-append ds (d ∷ [])

reverse-cons : (ds : List Declaration) (d : Declaration) → reverse (d ∷ ds) ≡ reverse ds ++ d ∷ []
reverse-cons ds d = reverse-append (d ∷ []) ds

at_end : (ds : List Declaration) (d : Declaration) → slice_get (ds ++ d ∷ []) (length ds) ≡ Some d
at_end [] d = refl
at_end (c ∷ ds) d = at_end ds d

before_end : (ds : List Declaration) (d : Declaration) (i : ℕ) → i < length ds → slice_get (ds ++ d ∷ []) i ≡ slice_get ds i
before_end [] d i h = absurd (omega arith)
before_end (c ∷ ds) d zero h = refl
before_end (c ∷ ds) d (suc i) h = before_end ds d i (omega arith)

-- ---- a look-up

newest_of-below : (ds : List Declaration) (x : List ℕ) (i : ℕ) → newest_of ds x ≡ Some i → i < length ds
newest_of-below [] x i e = absurd (let no : ⊥ = cc in no)
newest_of-below (d ∷ ds) x i e = by (bytes_eq d.name.items x) (newest_of-below ds x i) e
  where
    by : (b : Bool) → (newest_of ds x ≡ Some i → i < length ds) → cond b (Some (length ds)) (newest_of ds x) ≡ Some i → i < suc (length ds)
    by true older h = let same : length ds ≡ i = cc in omega arith
    by false older h = let below = older h in omega arith

abbrev pub named_at : List Declaration → Option ℕ → Option Named
named_at ds None = None
named_at ds (Some i) = option_map (λ d. d.named) (slice_get ds i)

found_in : (ds : List Declaration) (x : List ℕ) → look_up (map entry_of ds) x ≡ named_at (reverse ds) (newest_of ds x)
found_in [] x = refl
found_in (d ∷ ds) x = by (bytes_eq d.name.items x) (found_in ds x) ∙ ap (λ l. named_at l (newest_of (d ∷ ds) x)) (sym (reverse-cons ds d))
  where
    older : (o : Option ℕ) → newest_of ds x ≡ o → named_at (reverse ds) o ≡ named_at (reverse ds ++ d ∷ []) o
    older None e = refl
    older (Some i) e =
        let below = newest_of-below ds x i e in
        ap (option_map (λ d. d.named)) (sym (before_end (reverse ds) d i (omega (arith, length-reverse ds))))

    by : (b : Bool) → look_up (map entry_of ds) x ≡ named_at (reverse ds) (newest_of ds x)
        → cond b (Some d.named) (look_up (map entry_of ds) x) ≡ named_at (reverse ds ++ d ∷ []) (cond b (Some (length ds)) (newest_of ds x))
    by true rest = ap (option_map (λ d. d.named)) (sym (ap (slice_get (reverse ds ++ d ∷ [])) (sym (length-reverse ds)) ∙ at_end (reverse ds) d))
    by false rest = rest ∙ older (newest_of ds x) refl

-- by the list with the oldest first
pub found : (t : Newest) (ds : List Declaration) (x : List ℕ) → IsIndexed t (reverse ds) → look_up (map entry_of (reverse ds)) x ≡ named_at ds (number_in t x)
found t ds x s =
    found_in (reverse ds) x ∙ ap (λ l. named_at l (newest_of (reverse ds) x)) (reverse-reverse ds) ∙ ap (named_at ds) (sym (s.newest x))

-- ---- the newest taken away

pub is_numbered : (t : Newest) (ds : List Declaration) (d : Declaration) → IsIndexed t (reverse (ds ++ d ∷ [])) → number_in t d.name.items ≡ Some (length (reverse ds))
is_numbered t ds d s =
    let whole = subst (IsIndexed t) (reverse-push ds d) s in
    whole.newest d.name.items ∙ ap (λ b. cond b (Some (length (reverse ds))) (newest_of (reverse ds) d.name.items)) (same_bytes d.name.items d.name.items refl)

pub IsIndexed-pop : (t u : Newest) (ds : List Declaration) (d : Declaration) → IsIndexed t (reverse (ds ++ d ∷ []))
    → ((x : List ℕ) → number_in u x ≡ cond (bytes_eq d.name.items x) d.hides (number_in t x)) → IsIndexed u (reverse ds)
IsIndexed-pop t u ds d s has = record { newest = λ x. has x ∙ by x (bytes_eq d.name.items x) refl; older = whole.older.1 }
  where
    whole : IsIndexed t (d ∷ reverse ds)
    whole = subst (IsIndexed t) (reverse-push ds d) s

    by : (x : List ℕ) (b : Bool) → bytes_eq d.name.items x ≡ b → cond b d.hides (number_in t x) ≡ newest_of (reverse ds) x
    by x true e = whole.older.0 ∙ ap (newest_of (reverse ds)) (equal_by d.name.items x e)
    by x false e = whole.newest x ∙ ap (λ b. cond b (Some (length (reverse ds))) (newest_of (reverse ds) x)) e

-- ---- scopes

pub outside-within : (n : ℕ) (es : List Entry) → is_within n es ≡ true → outside n (drop 1 es) ≡ outside n es
outside-within n [] h = refl
outside-within n (e ∷ es) h =
    sym (ap (λ b. drop (cond b (1 + prefix_len (λ e. nat_le n e.named.depth) es) 0) (e ∷ es)) h ∙ ap (λ k. drop k (e ∷ es)) one)
  where
    one : 1 + prefix_len (λ e. nat_le n e.named.depth) es ≡ suc (prefix_len (λ e. nat_le n e.named.depth) es)
    one = omega arith

-- ---- functions

pub signature_at-slice_get : (fs : List Signature) (i : ℕ) → slice_get fs i ≡ signature_at fs i
signature_at-slice_get [] i = refl
signature_at-slice_get (f ∷ fs) zero = refl
signature_at-slice_get (f ∷ fs) (suc i) = signature_at-slice_get fs i
