-- The kind that an operator converts each operand to.
use Rattle.sy_num.specs.Kinds.{promoted, common_kind}
use Rattle.sy_num.specs.declared.BinOp.{BinOp}
use Rattle.sy_num.specs.declared.BinOp.TheVariants.{Shl, Shr}
use Rattle.sy_num.specs.declared.Kind.{Kind}
use Rattle.sy_num.specs.declared.Kind.TheVariants as kinds
use Rattle.sy_num.specs.declared.UnOp.{UnOp}
use Rattle.sy_num.specs.declared.UnOp.TheVariants.{Not}

abbrev pub left_kind : BinOp → Kind → Kind → Kind
left_kind Shl j k = promoted j
left_kind Shr j k = promoted j
left_kind op j k = common_kind j k

abbrev pub right_kind : BinOp → Kind → Kind → Kind
right_kind Shl j k = promoted k
right_kind Shr j k = promoted k
right_kind op j k = common_kind j k

abbrev pub operand_kind : UnOp → Kind → Kind
operand_kind Not k = kinds.Bool
operand_kind op k = promoted k
