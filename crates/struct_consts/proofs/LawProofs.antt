-- The proofs of the laws, under the names by which crates above cite them.
use Rattle.std.proofs.Common.{refl}
use Rattle.pair_colours.specs.Colouring.{colour_at}
use Rattle.struct_consts.specs.Laws.{ColoursAreBelowRank, ClassesHavePairs, TrianglesMove, TrianglesAreConstants, RowsAreValencies, ConstantsSumToSize, SizeIsFibreTimesValency}
use Rattle.struct_consts.proofs.Configurations.{class_is_colour, colour_below, colour_at-below, first_pair_some, pair_of_class-holds}
use Rattle.struct_consts.proofs.Constancy.{triangle_moved, triangles-constant, valency-fibre}
use Rattle.struct_consts.proofs.ConstantSums as sums

pub colours_are_below_rank : ColoursAreBelowRank
colours_are_below_rank K h k = (λ l. class_is_colour K h k l, λ u. colour_below K h k u)

pub classes_have_pairs : ClassesHavePairs
classes_have_pairs K h k l = (first_pair_some K h k l, pair_of_class-holds K h k l)

pub triangles_move : TrianglesMove
triangles_move = triangle_moved

pub triangles_are_constants : TrianglesAreConstants
triangles_are_constants K h x y i j hx hy = triangles-constant K h (colour_at K x y) x y i j (colour_at-below K h x y hx hy) hx hy refl

pub rows_are_valencies : RowsAreValencies
rows_are_valencies = valency-fibre

pub constants_sum_to_size : ConstantsSumToSize
constants_sum_to_size = sums.constants_sum

pub size_is_fibre_times_valency : SizeIsFibreTimesValency
size_is_fibre_times_valency = sums.size_is_fibre_times_valency
