-- What is found in a lambda, and how its parts come together.
use Rattle.std.proofs.Common.{◌≡◌, refl, sym, ap, subst, ◌∙◌, ◌+◌, ◌≤◌, ℕ, Bool, true, false, if◌then◌else◌, List, [], ◌∷◌, ◌++◌, map, length, drop, append_assoc, Option, Some, None, arith}
use Rattle.std.specs.Prelude.{flat_map, nat_lt}
use Rattle.std.proofs.lemmas.List.{append-nil, length-append}
use Rattle.std.proofs.Math.Seq.{drop-append_seam}
use Rattle.sy_note.specs.declared.Code.TheVariants as code
use Rattle.sy_note.specs.declared.Diagnostic.{Diagnostic}
use Rattle.sy_note.specs.declared.Spot.{Spot}
use Rattle.sy_tree.specs.declared.parts.Capture.{Capture}
use Rattle.sy_tree.specs.declared.parts.Capture.TheVariants as capture
use Rattle.sy_tree.specs.declared.parts.LambdaParameter.{LambdaParameter}
use Rattle.sy_tree.specs.declared.parts.Lexeme.{Lexeme}
use Rattle.sy_tree.specs.declared.tree.Block.{Block}
use Rattle.sy_typed.specs.declared.tree.TypedBlock.{TypedBlock}
use Rattle.sy_typed.specs.declared.tree.TypedCapture.{TypedCapture}
use Rattle.sy_typed.specs.declared.tree.TypedLambda.{TypedLambda, roll-TypedLambda}
use Rattle.sy_typed.specs.declared.tree.Variable.{Variable}
use Rattle.sy_closures.specs.Bodies.{parts_of_lambda}
use Rattle.sy_findings.specs.Told.{told}
use Rattle.sy_found.specs.Noted.{Notes, note, noted, placed_by, found_in, held_for}
use Rattle.sy_found.specs.declared.parts.Place.{Place}
use Rattle.sy_found.proofs.FoundLemmas.{in_parts, first_in, faults_in}
use Rattle.sy_looks.specs.Looked.{looked}
use Rattle.sy_looks.specs.declared.walk.Walk.{Walk}
use Rattle.sy_placing.specs.Placing.{HavePlaces}
use Rattle.sy_placing.proofs.PlacingLemmas.{fault_places, places_append, block_has_places}
use Rattle.sy_placing.proofs.ThreadLemmas.{block_keeps_threads}
use Rattle.sy_rules.specs.declared.library.Role.{Role}
use Rattle.sy_rules.specs.declared.names.Named.{Named}
use Rattle.sy_rules.specs.declared.names.Names.{Names}
use Rattle.sy_rules.specs.declared.names.ThreadScope.{ThreadScope}
use Rattle.sy_rules.specs.declared.names.Within.TheVariants as within
use Rattle.sy_rules.specs.declared.seen.SeenLambda.{SeenLambda}
use Rattle.sy_rules.specs.ExprTypes.{use_of}
use Rattle.sy_rules.specs.Faults.{at}
use Rattle.sy_rules.specs.Lambdas.{bad_lambda, captures_given, lambda_parameter_faults, listed_faults, thread_scope}
use Rattle.sy_rules.specs.Names.{look_up, entered, left, in_setting, scoped, with_setting}
use Rattle.sy_rules.specs.Outcome.{Finding, broken, foreign, held, calls, uses, Outcome, Look, in_turn, faults_found, all_broken, all_used}
use Rattle.sy_rules.specs.Walk.{block, inside, one_listed, one_capture, all_captures, captured_by, one_lambda_parameter, parameters_and_body, lambda_inside, lambda_parts, lambda_found, lambda_judged, seen_lambda, out_of_threads, within_thread}

-- ---- what is found in a lambda has its place

if_places : (b : Bool) (xs : List Finding) → HavePlaces xs → HavePlaces (if b then xs else [])
if_places true xs h = h
if_places false xs h = λ p. refl

one_use_places : (v : Named) → HavePlaces (uses v ∷ [])
one_use_places v None = refl
one_use_places v (Some p) = refl

use_places : (v : Option Named) → HavePlaces (use_of v)
use_places None = λ p. refl
use_places (Some v) = if_places (nat_lt 0 v.depth) (uses v ∷ []) (one_use_places v)

listed_places : (o : Names) (t : Option ThreadScope) (c : Capture) (n : Names) → HavePlaces (one_capture o t c n).found
listed_places o t (capture.Reference s x) n = places_append (faults_found (listed_faults o t true x)) (use_of (look_up o.entries x.text)) (fault_places (listed_faults o t true x)) (use_places (look_up o.entries x.text))
listed_places o t (capture.Copy x) n = places_append (faults_found (listed_faults o t false x)) (use_of (look_up o.entries x.text)) (fault_places (listed_faults o t false x)) (use_places (look_up o.entries x.text))
listed_places o t (capture.DefaultReference s) n = λ p. refl
listed_places o t (capture.DefaultCopy s) n = λ p. refl

captures_places : (o : Names) (t : Option ThreadScope) (cs : List Capture) (n : Names) → HavePlaces (all_captures o t cs n).found
captures_places o t [] n = λ p. refl
captures_places o t (c ∷ cs) n =
    places_append (one_capture o t c n).found (all_captures o t cs (one_capture o t c n).names).found (listed_places o t c n) (captures_places o t cs (one_capture o t c n).names)

parameters_places : (r : Role) (ps : List LambdaParameter) (n : Names) → HavePlaces (in_turn (map (one_lambda_parameter r) ps) n).found
parameters_places r [] n = λ p. refl
parameters_places r (x ∷ ps) n =
    places_append (faults_found (lambda_parameter_faults n x)) (in_turn (map (one_lambda_parameter r) ps) (one_lambda_parameter r x n).names).found
    (fault_places (lambda_parameter_faults n x)) (parameters_places r ps (one_lambda_parameter r x n).names)

body_places : (r : Role) (ps : List LambdaParameter) (b : Block) (n : Names) → HavePlaces (parameters_and_body r ps (block b) n).found
body_places r ps b n =
    places_append (in_turn (map (one_lambda_parameter r) ps) n).found (block b (in_turn (map (one_lambda_parameter r) ps) n).names).found
    (parameters_places r ps n) (block_has_places b (in_turn (map (one_lambda_parameter r) ps) n).names)

pub lambda_places : (r : Role) (cs : List Capture) (ps : List LambdaParameter) (b : Block) (n : Names) → HavePlaces (parts_of_lambda r cs ps (block b) n).found
lambda_places r cs ps b n =
    let t = thread_scope n r cs in
    let k = all_captures n t cs (entered (record n { next_body = n.next_body + 1 })) in
    places_append k.found (lambda_inside r ps (block b) n (within_thread t k.names)).found
    (captures_places n t cs (entered (record n { next_body = n.next_body + 1 })))
    (body_places r ps b (entered (with_setting (inside r n.depth) (within_thread t k.names))))

-- ---- the threads round what stands inside

parameters_keep : (r : Role) (ps : List LambdaParameter) (n : Names) → (in_turn (map (one_lambda_parameter r) ps) n).names.threads ≡ n.threads
parameters_keep r [] n = refl
parameters_keep r (x ∷ ps) n = parameters_keep r ps (one_lambda_parameter r x n).names

inside_keeps : (r : Role) (d : ℕ) (ps : List LambdaParameter) (b : Block) (n : Names) →
    (in_setting (inside r d) (λ m. scoped (parameters_and_body r ps (block b)) m) n).names.threads ≡ n.threads
inside_keeps r d ps b n =
    let m = entered (with_setting (inside r d) n) in
    block_keeps_threads b (in_turn (map (one_lambda_parameter r) ps) m).names ∙ parameters_keep r ps m

captured_keeps : (t : Option ThreadScope) (r : Bool) (x : Lexeme) (v : Option Named) (n : Names) → (captured_by t r x v n).threads ≡ n.threads
captured_keeps None r x v n = refl
captured_keeps (Some t) r x None n = refl
captured_keeps (Some t) r x (Some v) n = refl

capture_keeps : (o : Names) (t : Option ThreadScope) (c : Capture) (n : Names) → (one_capture o t c n).names.threads ≡ n.threads
capture_keeps o t (capture.Reference s x) n = captured_keeps t true x (look_up o.entries x.text) n
capture_keeps o t (capture.Copy x) n = captured_keeps t false x (look_up o.entries x.text) n
capture_keeps o t (capture.DefaultReference s) n = refl
capture_keeps o t (capture.DefaultCopy s) n = refl

captures_keep : (o : Names) (t : Option ThreadScope) (cs : List Capture) (n : Names) → (all_captures o t cs n).names.threads ≡ n.threads
captures_keep o t [] n = refl
captures_keep o t (c ∷ cs) n = captures_keep o t cs (one_capture o t c n).names ∙ capture_keeps o t c n

within_keeps : (t : Option ThreadScope) (m n : Names) → m.threads ≡ n.threads → (within_thread t m).threads ≡ (within_thread t n).threads
within_keeps None m n e = e
within_keeps (Some t) m n e = ap (λ ts. t ∷ ts) e

-- ---- the parts of a lambda, one after another

-- the names inside, behind the list of captures
abbrev pub listed_inside : Option ThreadScope → List Capture → Names → Outcome (List TypedCapture)
listed_inside t cs n = all_captures n t cs (entered (record n { next_body = n.next_body + 1 }))

abbrev begun : Option ThreadScope → List Capture → Walk → Walk
begun t cs w = record w { names = within_thread t (listed_inside t cs w.names).names; found = found_in w.place w.found (listed_inside t cs w.names).found }

parts_begun : (t : Option ThreadScope) (cs : List Capture) (w m k : Walk) (n : Names) →
    m ≡ record w { found = found_in w.place w.found (listed_inside t cs w.names).found } →
    n ≡ record m.names { next_body = m.names.next_body + 1 } →
    k ≡ record m { names = within_thread t (all_captures w.names t cs (entered n)).names } →
    k ≡ begun t cs w
parts_begun t cs w m k n em en ek =
    ek
    ∙ ap (λ (z : Names). record m { names = within_thread t (all_captures w.names t cs (entered z)).names }) en
    ∙ ap (λ (z : Walk). record z { names = within_thread t (all_captures w.names t cs (entered (record z.names { next_body = z.names.next_body + 1 }))).names }) em

abbrev pub body_of : Role → ℕ → List LambdaParameter → Block → Look (List Variable × TypedBlock)
body_of r d ps b = in_setting (inside r d) (λ m. scoped (parameters_and_body r ps (block b)) m)

inside_begun : (r : Role) (t : Option ThreadScope) (cs : List Capture) (ps : List LambdaParameter) (b : Block) (w k m : Walk) (d : ℕ) (i : List Variable × TypedBlock) →
    k ≡ begun t cs w → d ≡ w.names.depth → (i, m) ≡ looked (body_of r d ps b) k → (i, m) ≡ looked (body_of r w.names.depth ps b) (begun t cs w)
inside_begun r t cs ps b w k m d i ek ed e =
    e ∙ ap (λ z. looked (body_of r z ps b) k) ed ∙ ap (λ z. looked (body_of r w.names.depth ps b) z) ek

-- behind the body the threads are those of the list
pub threads_inside : (r : Role) (t : Option ThreadScope) (cs : List Capture) (ps : List LambdaParameter) (b : Block) (w m k : Walk) (n : Names) (d : ℕ) (end : Walk) (i : List Variable × TypedBlock) →
    m ≡ record w { found = found_in w.place w.found (listed_inside t cs w.names).found } →
    n ≡ record m.names { next_body = m.names.next_body + 1 } →
    k ≡ record m { names = within_thread t (all_captures w.names t cs (entered n)).names } →
    d ≡ w.names.depth → (i, end) ≡ looked (body_of r d ps b) k →
    end.names.threads ≡ (within_thread t w.names).threads
threads_inside r t cs ps b w m k n d end i em en ek ed e =
    let j = within_thread t (listed_inside t cs w.names).names in
    ap (λ (p : (List Variable × TypedBlock) × Walk). p.1.names.threads) (inside_begun r t cs ps b w k end d i (parts_begun t cs w m k n em en ek) ed e)
    ∙ inside_keeps r w.names.depth ps b j
    ∙ within_keeps t (listed_inside t cs w.names).names w.names (captures_keep w.names t cs (entered (record w.names { next_body = w.names.next_body + 1 })))

pub parts_looked : (r : Role) (t : Option ThreadScope) (cs : List Capture) (ps : List LambdaParameter) (b : Block) (w m k : Walk) (n : Names) (d : ℕ) (end last : Walk) (xs : List TypedCapture) (i : List Variable × TypedBlock) →
    t ≡ thread_scope w.names r cs →
    m ≡ record w { found = found_in w.place w.found (listed_inside t cs w.names).found } →
    xs ≡ (listed_inside t cs w.names).what →
    n ≡ record m.names { next_body = m.names.next_body + 1 } →
    k ≡ record m { names = within_thread t (all_captures w.names t cs (entered n)).names } →
    d ≡ w.names.depth → (i, end) ≡ looked (body_of r d ps b) k →
    last ≡ record end { names = record (left end.names) { threads = w.names.threads } } →
    ((xs, i), last) ≡ looked (parts_of_lambda r cs ps (block b)) w
parts_looked r t cs ps b w m k n d end last xs i et em ex en ek ed e el =
    let l = listed_inside t cs w.names in
    let o = body_of r w.names.depth ps b (within_thread t l.names) in
    let whole : Option ThreadScope → (List TypedCapture × (List Variable × TypedBlock)) × Walk =
    λ u. looked (λ n. out_of_threads n (lambda_parts r u cs ps (block b) n (record n { next_body = n.next_body + 1 }))) w in
    let names : Names = record (left o.names) { threads = w.names.threads } in
    ap (λ z. ((xs, i), z)) el
    ∙ ap (λ (p : (List Variable × TypedBlock) × Walk). ((xs, p.0), record p.1 { names = record (left p.1.names) { threads = w.names.threads } })) (inside_begun r t cs ps b w k end d i (parts_begun t cs w m k n em en ek) ed e)
    ∙ ap (λ z. ((z, o.what), record w { names = names; found = found_in w.place (found_in w.place w.found l.found) o.found })) ex
    ∙ ap (λ z. ((l.what, o.what), record w { names = names; found = z })) (sym (in_parts w.place w.found l.found o.found))
    ∙ ap whole et

-- ---- uses that were found

used_noted : (t : Notes) (xs : List Finding) → (noted t xs).used ≡ t.used ++ all_used xs
used_noted t [] = sym (append-nil t.used)
used_noted t (broken d ∷ xs) = used_noted (note t (broken d)) xs
used_noted t (foreign u ∷ xs) = used_noted t xs
used_noted t (held within.Host s ∷ xs) = used_noted t xs
used_noted t (held within.Kernel s ∷ xs) = used_noted (note t (held within.Kernel s)) xs
used_noted t (held within.Group s ∷ xs) = used_noted (note t (held within.Group s)) xs
used_noted t (calls w i ∷ xs) = used_noted (note t (calls w i)) xs
used_noted t (uses v ∷ xs) = used_noted (note t (uses v)) xs ∙ append_assoc t.used (v ∷ []) (all_used xs)

used_in : (p : Option Place) (t : Notes) (xs : List Finding) → HavePlaces xs → (found_in p t xs).used ≡ t.used ++ all_used xs
used_in p t xs h = ap (λ l. (noted t l).used) (h p) ∙ used_noted t xs

pub used_before : (p : Option Place) (t u : Notes) (xs : List Finding) (i : ℕ) → HavePlaces xs → u ≡ found_in p t xs → i ≡ length t.used → i ≤ length u.used
used_before p t u xs i h e ei =
    let whole : length u.used ≡ length t.used + length (all_used xs) = ap (λ (z : Notes). length z.used) e ∙ ap length (used_in p t xs h) ∙ length-append t.used (all_used xs) in
    omega (arith, whole, ei)

pub used_behind : (p : Option Place) (t u : Notes) (xs : List Finding) (i : ℕ) → HavePlaces xs → u ≡ found_in p t xs → i ≡ length t.used → drop i u.used ≡ all_used xs
used_behind p t u xs i h e ei =
    ap (λ z. drop z u.used) ei
    ∙ ap (λ (z : Notes). drop (length t.used) z.used) e
    ∙ ap (drop (length t.used)) (used_in p t xs h)
    ∙ drop-append_seam t.used (all_used xs)

-- ---- BadLambda, which is told behind what is found inside and stands before it

-- where nothing is broken, what is told first stays
first_stays : (t : Notes) (f : Option Diagnostic) (xs : List Finding) → all_broken xs ≡ [] → noted (record t { first = f }) xs ≡ record (noted t xs) { first = f }
first_stays t f [] e = refl
first_stays t f (broken d ∷ xs) e = cc
first_stays t f (foreign u ∷ xs) e = first_stays t f xs e
first_stays t f (held within.Host s ∷ xs) e = first_stays t f xs e
first_stays t f (held within.Kernel s ∷ xs) e = first_stays (held_for within.Kernel s t) f xs e
first_stays t f (held within.Group s ∷ xs) e = first_stays (held_for within.Group s t) f xs e
first_stays t f (calls w i ∷ xs) e = first_stays (note t (calls w i)) f xs e
first_stays t f (uses v ∷ xs) e = first_stays (note t (uses v)) f xs e

-- the rule that is told first among what has its place
pub first_placed : (p : Option Place) (t : Notes) (xs : List Finding) → HavePlaces xs → (found_in p t xs).first ≡ told t.first (all_broken xs)
first_placed p t xs h = first_in p t xs ∙ ap (λ l. told t.first (all_broken l)) (h p)

told_before : (p : Option Place) (t : Notes) (ds : List Diagnostic) (xs : List Finding) → HavePlaces xs → all_broken xs ≡ [] →
    found_in p (found_in p t xs) (faults_found ds) ≡ found_in p t (faults_found ds ++ xs)
told_before p t ds xs h e =
    faults_in p (found_in p t xs) ds
    ∙ ap (λ f. record (found_in p t xs) { first = told f ds }) (first_placed p t xs h ∙ ap (told t.first) e)
    ∙ ap (λ l. record (noted t l) { first = told t.first ds }) (h p)
    ∙ sym (first_stays t (told t.first ds) xs e)
    ∙ ap (noted (record t { first = told t.first ds })) (sym (h p))
    ∙ ap (λ u. found_in p u xs) (sym (faults_in p t ds))
    ∙ sym (in_parts p t (faults_found ds) xs)

bad_before : (r : Role) (s : Spot) (cs : List Capture) (ps : List LambdaParameter) (p : Option Place) (t : Notes) (xs : List Finding) (ds : List Diagnostic) → HavePlaces xs → all_broken xs ≡ ds →
    found_in p (found_in p t xs) (faults_found (at code.BadLambda (bad_lambda r s cs ps ds))) ≡ found_in p t (faults_found (at code.BadLambda (bad_lambda r s cs ps ds)) ++ xs)
bad_before r s cs ps p t xs [] h e = told_before p t (at code.BadLambda (bad_lambda r s cs ps [])) xs h e
bad_before r s cs ps p t xs (d ∷ ds) h e = refl

pub lambda_told : (r : Role) (s : Spot) (cs : List Capture) (ps : List LambdaParameter) (p : Option Place) (t u : Notes) (xs : List Finding) → HavePlaces xs →
    u ≡ found_in p (found_in p t xs) (faults_found (at code.BadLambda (bad_lambda r s cs ps (all_broken xs)))) → u ≡ found_in p t (lambda_found r s cs ps xs)
lambda_told r s cs ps p t u xs h e = e ∙ bad_before r s cs ps p t xs (all_broken xs) h refl

pub lambda_found_places : (r : Role) (s : Spot) (cs : List Capture) (ps : List LambdaParameter) (xs : List Finding) → HavePlaces xs → HavePlaces (lambda_found r s cs ps xs)
lambda_found_places r s cs ps xs h =
    places_append (faults_found (at code.BadLambda (bad_lambda r s cs ps (all_broken xs)))) xs (fault_places (at code.BadLambda (bad_lambda r s cs ps (all_broken xs)))) h

-- ---- a whole lambda

pub lambda_looked : (r : Role) (s : Spot) (cs : List Capture) (ps : List LambdaParameter) (b : Block) (w m : Walk) (aside found : Notes) (xs given : List TypedCapture) (i : List Variable × TypedBlock) (number : ℕ) (seen : SeenLambda) (tree : TypedLambda) →
    ((xs, i), m) ≡ looked (parts_of_lambda r cs ps (block b)) (record w { found = aside }) →
    seen ≡ seen_lambda ps (all_broken (lambda_found r s cs ps (parts_of_lambda r cs ps (block b) w.names).found)) →
    found ≡ found_in w.place w.found (lambda_found r s cs ps (parts_of_lambda r cs ps (block b) w.names).found) →
    given ≡ captures_given r w.names.next xs (all_used (parts_of_lambda r cs ps (block b) w.names).found) →
    number ≡ w.names.next_body →
    tree ≡ roll-TypedLambda (record { spot = s; number = number; captures = given; parameters = i.0; body = i.1 }) →
    ((seen, tree), record m { found = found }) ≡ looked (λ n. lambda_judged r s cs ps n (parts_of_lambda r cs ps (block b) n)) w
lambda_looked r s cs ps b w m aside found xs given i number seen tree e es ef eg en et =
    let o = parts_of_lambda r cs ps (block b) w.names in
    let built : ℕ → List TypedCapture → List Variable × TypedBlock → TypedLambda =
    λ k g j. roll-TypedLambda (record { spot = s; number = k; captures = g; parameters = j.0; body = j.1 }) in
    ap (λ z. ((seen, z), record m { found = found })) (et ∙ ap (λ k. built k given i) en ∙ ap (λ g. built w.names.next_body g i) eg)
    ∙ ap (λ (p : (List TypedCapture × (List Variable × TypedBlock)) × Walk). ((seen, built w.names.next_body (captures_given r w.names.next p.0.0 (all_used o.found)) p.0.1), record p.1 { found = found })) e
    ∙ ap (λ z. ((z, built w.names.next_body (captures_given r w.names.next o.what.0 (all_used o.found)) o.what.1), record w { names = o.names; found = found })) es
    ∙ ap (λ z. ((seen_lambda ps (all_broken (lambda_found r s cs ps o.found)), built w.names.next_body (captures_given r w.names.next o.what.0 (all_used o.found)) o.what.1), record w { names = o.names; found = z })) ef
