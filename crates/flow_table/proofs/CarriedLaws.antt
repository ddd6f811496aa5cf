-- What a table operation does is in range if what it carries is.
use Rattle.flow_table.specs.Types.{TableOperation}
use Rattle.flow_table.specs.Carried.{carried_of, CarriedInRange}
use Rattle.flow_table.specs.FlowTable.{table_effect, EffectInRange}

pub effect_range : (o : TableOperation) → CarriedInRange (carried_of o) → EffectInRange (table_effect o)
effect_range (TableOperation.Packet g p) r = r
effect_range (TableOperation.Add e) r = r
effect_range (TableOperation.AddChecked e) r = r
effect_range (TableOperation.ModifyStrict e) r = r
effect_range (TableOperation.Modify e) r = r
effect_range (TableOperation.DeleteStrict k) r = r
effect_range (TableOperation.Delete m) r = r
