use Rattle.std.proofs.Common.{rules}
use Rattle.std.proofs.lemmas.List.Sorted.{IsPartitionPoint-from_clause}
use Rattle.struct_consts.specs.Lookup.{is_before}
use Rattle.struct_consts.proofs.LookupLemmas.{before_is_partitioned}
use Rattle.struct_consts.proofs.lookup.place_in.Goals as goal

pub returns : goal.returns
returns c =
    let entries = c.args.entries.now in
    IsPartitionPoint-from_clause (is_before c.args.left c.args.right) entries c.partition_point.result c.partition_point.ensures.partitioned
    (before_is_partitioned entries c.args.left c.args.right c.requires) (λ a r f' called. search rules)
