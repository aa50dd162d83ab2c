use Rattle.contracts.specs.Tables.{table_at}
use Rattle.contracts.specs.View.{tables_in}
use Rattle.contracts.proofs.Laws.{each-ruled, each-together, ranged, send_states}
use Rattle.contracts.proofs.Rows.{goes-once}
use Rattle.contracts.proofs.set.ContractSet.laws.Goals as goal

pub returns : goal.returns
returns c = record {
  deterministic = λ k l s m u v p q. goes-once (table_at (tables_in c.args.self.now) k).moves s m u v p q;
  ranged = λ k l. ranged (table_at (tables_in c.args.self.now) k);
  inhabited = λ k l. (each-ruled c.args.self.now k l).inhabited;
  positional = λ k l. (each-ruled c.args.self.now k l).positional;
  reachable = λ k l. (each-ruled c.args.self.now k l).reachable;
  synchronising = λ k l. (each-ruled c.args.self.now k l).synchronising;
  rows_within_bound = λ k l d b longest s u n p. longest.0 n (s, u, p);
  bounds_together = each-together c.args.self.now;
  send_states = λ k l. send_states (tables_in c.args.self.now) (table_at (tables_in c.args.self.now) k) (c.args.self.now.lawful k l);
}
