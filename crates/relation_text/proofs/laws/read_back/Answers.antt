use Rattle.relation_text.proofs.LawProofs.{graph_is_read_back, digraph_is_read_back}
use Rattle.relation_text.proofs.laws.read_back.Goals as goal

pub returns-clause-graph : goal.returns-clause-graph
returns-clause-graph c = graph_is_read_back

pub returns-clause-digraph : goal.returns-clause-digraph
returns-clause-digraph c = digraph_is_read_back
