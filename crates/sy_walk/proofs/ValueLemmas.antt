-- Values and arguments, one by one from the left.
use Rattle.std.proofs.Common.{◌≡◌, List, [], ◌∷◌, ◌++◌, map, Option, ap, sym, ◌∙◌}
use Rattle.std.proofs.lemmas.List.{append-nil}
use Rattle.sy_looks.proofs.ListLookLemmas.{gone_on, pushed_both}
use Rattle.sy_looks.specs.Looked.{looked}
use Rattle.sy_looks.specs.declared.walk.Walk.{Walk}
use Rattle.sy_rules.specs.declared.library.Role.{Role}
use Rattle.sy_rules.specs.declared.names.Taken.{Taken}
use Rattle.sy_rules.specs.declared.names.Taken.TheVariants as takes
use Rattle.sy_rules.specs.declared.seen.Seen.{Seen}
use Rattle.sy_rules.specs.declared.seen.SeenArgument.{SeenArgument}
use Rattle.sy_rules.specs.Names.{where_taken}
use Rattle.sy_rules.specs.Outcome.{Look, known_as, in_turn}
use Rattle.sy_rules.specs.Walk.{Ar, Ex, arguments, one_argument, part, parts, seen_of, typed_of}
use Rattle.sy_typed.specs.declared.tree.Typed.{Typed}
use Rattle.sy_typed.specs.declared.tree.TypedArgument.{TypedArgument}
use Rattle.sy_walk.specs.Values.{values}

-- ---- values

-- the values of which these were looked at, and those
abbrev pub values_behind : List Seen → List Typed → List Ex → Look (List Seen × List Typed)
values_behind xs us all n = known_as (λ ps. (xs ++ map seen_of ps, us ++ map typed_of ps)) (parts all n)

pub values_begun : (xs : List Seen) (us : List Typed) (all : List Ex) (w : Walk) → xs ≡ [] → us ≡ [] →
    looked (values_behind xs us all) w ≡ looked (values all) w
values_begun xs us all w e h =
    ap (λ l. looked (values_behind l us all) w) e ∙ ap (λ l. looked (values_behind [] l all) w) h

pub values_on : (a : Ex) (rest : List Ex) (w m : Walk) (p : Seen × Typed) (xs ys : List Seen) (us vs : List Typed) →
    (p, m) ≡ looked (where_taken takes.Nothing a) w → ys ≡ xs ++ p.0 ∷ [] → vs ≡ us ++ p.1 ∷ [] →
    looked (values_behind ys vs rest) m ≡ looked (values_behind xs us (a ∷ rest)) w
values_on a rest w m p xs ys us vs e h k =
    gone_on (λ ps. (xs ++ map seen_of ps, us ++ map typed_of ps)) (λ ps. (ys ++ map seen_of ps, vs ++ map typed_of ps)) (λ x l. x ∷ l)
    (where_taken takes.Nothing a) (λ x. in_turn (map part rest)) w m p e
    (λ ps. pushed_both xs ys us vs p.0 p.1 (map seen_of ps) (map typed_of ps) h k)

pub values_ended : (xs : List Seen) (us : List Typed) (w : Walk) → ((xs, us), w) ≡ looked (values_behind xs us []) w
values_ended xs us w = ap (λ l. ((l, us), w)) (sym (append-nil xs)) ∙ ap (λ l. ((xs ++ [], l), w)) (sym (append-nil us))

-- ---- arguments

abbrev pub arguments_behind : Taken → (List SeenArgument → Option Role) → List SeenArgument → List TypedArgument → List Ar → Look (List SeenArgument × List TypedArgument)
arguments_behind k role xs us all n = known_as (λ q. (xs ++ q.0, us ++ q.1)) (arguments k role xs all n)

pub arguments_begun : (k : Taken) (role : List SeenArgument → Option Role) (xs : List SeenArgument) (us : List TypedArgument) (all : List Ar) (w : Walk) →
    xs ≡ [] → us ≡ [] → looked (arguments_behind k role xs us all) w ≡ looked (arguments k role [] all) w
arguments_begun k role xs us all w e h =
    ap (λ l. looked (arguments_behind k role l us all) w) e ∙ ap (λ l. looked (arguments_behind k role [] l all) w) h

-- the role is the one behind the arguments that were looked at
pub arguments_on : (k : Taken) (role : List SeenArgument → Option Role) (a : Ar) (rest : List Ar) (r : Option Role) (w m : Walk) (p : SeenArgument × TypedArgument)
    (xs ys : List SeenArgument) (us vs : List TypedArgument) →
    r ≡ role xs → (p, m) ≡ looked (one_argument k r a) w → ys ≡ xs ++ p.0 ∷ [] → vs ≡ us ++ p.1 ∷ [] →
    looked (arguments_behind k role ys vs rest) m ≡ looked (arguments_behind k role xs us (a ∷ rest)) w
arguments_on k role a rest r w m p xs ys us vs is e h t =
    ap (λ l. looked (λ n. known_as (λ q. (ys ++ q.0, vs ++ q.1)) (arguments k role l rest n)) m) h
    ∙ gone_on (λ (q : List SeenArgument × List TypedArgument). (xs ++ q.0, us ++ q.1)) (λ (q : List SeenArgument × List TypedArgument). (ys ++ q.0, vs ++ q.1))
    (λ (x : SeenArgument × TypedArgument) (q : List SeenArgument × List TypedArgument). (x.0 ∷ q.0, x.1 ∷ q.1))
    (one_argument k (role xs) a) (λ x. arguments k role (xs ++ x.0 ∷ []) rest) w m p (e ∙ ap (λ z. looked (one_argument k z a) w) is)
    (λ q. pushed_both xs ys us vs p.0 p.1 q.0 q.1 h t)

pub arguments_ended : (k : Taken) (role : List SeenArgument → Option Role) (xs : List SeenArgument) (us : List TypedArgument) (w : Walk) →
    ((xs, us), w) ≡ looked (arguments_behind k role xs us []) w
arguments_ended k role xs us w = ap (λ l. ((l, us), w)) (sym (append-nil xs)) ∙ ap (λ l. ((xs ++ [], l), w)) (sym (append-nil us))
