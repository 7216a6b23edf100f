-- `?:` of pointers and of void: on either way the value goes to the type, as by a cast.
use Rattle.c_tree.specs.declared.types.ValueType.TheVariants.{Void, Pointer}
use Rattle.lower_laws.proofs.Conditional.{choices-lower, voids-lower}
use Rattle.lower_laws.proofs.Storing.{pointers-convert}
use Rattle.lower_laws.specs.WholeLaws.{PointersAreChosen, VoidsAreChosen}

pub pointers-chosen : PointersAreChosen
pointers-chosen S site t q a b lq scalar la goes lb goes' =
    choices-lower S site (Pointer t) q a b lq scalar (pointers-convert S site t a la goes)
    (pointers-convert S site t b lb goes')

pub voids-chosen : VoidsAreChosen
voids-chosen S site q a b lq scalar la lb =
    choices-lower S site Void q a b lq scalar (voids-lower S site a la) (voids-lower S site b lb)
