-- An operator has the same value on operands that were converted before.
use Rattle.std.proofs.Common.{◌≡◌, refl, ap, ◌∙◌, ℤ, ◌+ℤ◌, ◌-ℤ◌, ◌*ℤ◌, pos, neg_ℤ, not, bit_and, bit_or, bit_xor}
use Rattle.std.specs.Prelude.{Result, Ok, int_lt, int_le}
use Rattle.std.specs.Ordering.{int_eq}
use Rattle.sy_num.specs.Kinds.{promoted, common_kind}
use Rattle.sy_num.specs.Scalars.{Scalar, scalar, converted_num}
use Rattle.sy_num.specs.Operators.{applied, applied_one, fitted, quotient, remainder, shifted_left, shifted_right, on_bits, flipped, truth}
use Rattle.sy_num.specs.declared.BinOp.{BinOp}
use Rattle.sy_num.specs.declared.BinOp.TheVariants.{Add, Sub, Mul, Div, Rem, Shl, Shr, And, Or, Xor, Eq, Ne, Lt, Le, Gt, Ge}
use Rattle.sy_num.specs.declared.Kind.{Kind}
use Rattle.sy_num.specs.declared.Kind.TheVariants as kinds
use Rattle.sy_num.specs.declared.UnOp.{UnOp}
use Rattle.sy_num.specs.declared.UnOp.TheVariants.{Plus, Minus, Not, Flip}
use Rattle.sy_num.specs.declared.Undefined.{Undefined}
use Rattle.sy_num.proofs.Theorems.{common_kind_is_promoted, common_kind-same, converted_identity, converted_in_range}
use Rattle.sy_words.specs.Operands.{left_kind, right_kind, operand_kind}

common : (j k : Kind) → common_kind (common_kind j k) (common_kind j k) ≡ common_kind j k
common j k = common_kind-same (common_kind j k) ∙ common_kind_is_promoted j k

again : (k : Kind) → promoted (promoted k) ≡ promoted k
again kinds.Bool = refl
again kinds.Char = refl
again kinds.SChar = refl
again kinds.UChar = refl
again kinds.Short = refl
again kinds.UShort = refl
again kinds.Int = refl
again kinds.UInt = refl
again kinds.Long = refl
again kinds.ULong = refl
again kinds.LLong = refl
again kinds.ULLong = refl

twice : (k : Kind) (z : ℤ) → converted_num k (converted_num k z) ≡ converted_num k z
twice k z = converted_identity k (converted_num k z) (converted_in_range k z)

-- the same, where the second kind is told otherwise
stays : (j k : Kind) (z : ℤ) → j ≡ k → converted_num j (converted_num k z) ≡ converted_num k z
stays j k z e = ap (λ i. converted_num i (converted_num k z)) e ∙ twice k z

same : (F : Kind → ℤ → ℤ → Result Scalar Undefined) (i j k l : Kind) (x y : ℤ) → i ≡ j → k ≡ l → F i (converted_num i (converted_num j x)) (converted_num k (converted_num l y)) ≡ F j (converted_num j x) (converted_num l y)
same F i j k l x y e f =
    ap (λ m. F m (converted_num i (converted_num j x)) (converted_num k (converted_num l y))) e
    ∙ ap (λ z. F j z (converted_num k (converted_num l y))) (stays i j x e)
    ∙ ap (F j (converted_num j x)) (stays k l y f)

one : (F : Kind → ℤ → Result Scalar Undefined) (j k : Kind) (z : ℤ) → j ≡ k → F j (converted_num j (converted_num k z)) ≡ F k (converted_num k z)
one F j k z e = ap (λ m. F m (converted_num j (converted_num k z))) e ∙ ap (F k) (stays j k z e)

in_common : (F : Kind → ℤ → ℤ → Result Scalar Undefined) (a b : Scalar) → F (common_kind (common_kind a.kind b.kind) (common_kind a.kind b.kind)) (converted_num (common_kind (common_kind a.kind b.kind) (common_kind a.kind b.kind)) (converted_num (common_kind a.kind b.kind) a.num)) (converted_num (common_kind (common_kind a.kind b.kind) (common_kind a.kind b.kind)) (converted_num (common_kind a.kind b.kind) b.num)) ≡ F (common_kind a.kind b.kind) (converted_num (common_kind a.kind b.kind) a.num) (converted_num (common_kind a.kind b.kind) b.num)
in_common F a b =
    let k = common_kind a.kind b.kind in
    same F (common_kind k k) k (common_kind k k) k a.num b.num (common a.kind b.kind) (common a.kind b.kind)

pub operands_converted : (op : BinOp) (a b : Scalar) → applied op (scalar (left_kind op a.kind b.kind) (converted_num (left_kind op a.kind b.kind) a.num)) (scalar (right_kind op a.kind b.kind) (converted_num (right_kind op a.kind b.kind) b.num)) ≡ applied op a b
unfolding applied
operands_converted Add a b = in_common (λ k x y. fitted k (x +ℤ y)) a b
operands_converted Sub a b = in_common (λ k x y. fitted k (x -ℤ y)) a b
operands_converted Mul a b = in_common (λ k x y. fitted k (x *ℤ y)) a b
operands_converted Div a b = in_common (λ k x y. quotient k x y) a b
operands_converted Rem a b = in_common (λ k x y. remainder k x y) a b
operands_converted Shl a b =
    same (λ k x y. shifted_left k x y) (promoted (promoted a.kind)) (promoted a.kind) (promoted (promoted b.kind)) (promoted b.kind) a.num b.num (again a.kind) (again b.kind)
operands_converted Shr a b =
    same (λ k x y. shifted_right k x y) (promoted (promoted a.kind)) (promoted a.kind) (promoted (promoted b.kind)) (promoted b.kind) a.num b.num (again a.kind) (again b.kind)
operands_converted And a b = in_common (λ k x y. Ok (on_bits bit_and k x y)) a b
operands_converted Or a b = in_common (λ k x y. Ok (on_bits bit_or k x y)) a b
operands_converted Xor a b = in_common (λ k x y. Ok (on_bits bit_xor k x y)) a b
operands_converted Eq a b = in_common (λ k x y. Ok (truth (int_eq x y))) a b
operands_converted Ne a b = in_common (λ k x y. Ok (truth (not (int_eq x y)))) a b
operands_converted Lt a b = in_common (λ k x y. Ok (truth (int_lt x y))) a b
operands_converted Le a b = in_common (λ k x y. Ok (truth (int_le x y))) a b
operands_converted Gt a b = in_common (λ k x y. Ok (truth (int_lt y x))) a b
operands_converted Ge a b = in_common (λ k x y. Ok (truth (int_le y x))) a b

pub operand_converted : (op : UnOp) (a : Scalar) → applied_one op (scalar (operand_kind op a.kind) (converted_num (operand_kind op a.kind) a.num)) ≡ applied_one op a
unfolding applied_one
operand_converted Plus a = one (λ k x. Ok (scalar k x)) (promoted (promoted a.kind)) (promoted a.kind) a.num (again a.kind)
operand_converted Minus a = one (λ k x. fitted k (neg_ℤ x)) (promoted (promoted a.kind)) (promoted a.kind) a.num (again a.kind)
operand_converted Not a = ap (λ z. Ok (truth (int_eq z (pos 0)))) (twice kinds.Bool a.num)
operand_converted Flip a = one (λ k x. Ok (flipped k x)) (promoted (promoted a.kind)) (promoted a.kind) a.num (again a.kind)
