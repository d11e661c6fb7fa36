-- The fields of a line, as they are cut from it.
use Rattle.matchstate.specs.Line.{Fields}
use Rattle.matchstate.specs.declared.line_fields.LineFields.{LineFields}

abbrev pub fields_in : LineFields → Fields
fields_in fields = record {
  position = fields.position.now;
  hand = fields.hand.now;
  betting = fields.betting.now;
  cards = fields.cards.now;
}
