-- The cells of a heap, read as cells of the machine's definitions over references.
use Rattle.obq_base.specs.declared.places.Ref.{Ref}
use Rattle.obq_model.specs.Terms.{Value, FieldBody, IsValue, IsMethod, IsAlias, Fields, Bare, Field, Term}
use Rattle.obq_model.specs.Store.{Cell, ObjectCell, ArrayCell, VariableCell, WriterCell, ConditionCell, EngineCell}
use Rattle.obq_heap.specs.declared.cells.Cell.{Cell as Held}
use Rattle.obq_heap.specs.Reading.{Reading, Words, read_cell}

-- what values and the members of closed groups are read as
abbrev pub Reads : Type 0
Reads = Reading (Value Ref) (Term Ref)

abbrev pub words : Words (Value Ref) (Term Ref) (FieldBody Ref) (Fields Ref) (Cell Ref)
words =
    record {
      is_value = IsValue;
      is_method = IsMethod;
      is_alias = IsAlias;
      no_field = Bare;
      a_field = Field;
      object = ObjectCell;
      array = ArrayCell;
      variable = VariableCell;
      writer = WriterCell;
      condition = ConditionCell;
      engine = EngineCell;
    }

abbrev pub cell_of : Reads → Held → Cell Ref
cell_of read cell = read_cell words read cell
