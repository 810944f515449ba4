-- What is put in a field has the field's width, whatever the description.
use mathlib.Core.Path.{◌≡◌, refl}
use lib.ListN.{length}
use Rattle.octets.proofs.DigitLaws.{length_digits}
use Rattle.angles.specs.Angles.{northward, eastward}
use Rattle.angles.proofs.AngleTexts.{length_angle}
use Rattle.due.proofs.DueWidths.{length_due}
use Rattle.rules.specs.Rules.{origin_form, item_width, width_of}
use Rattle.description.specs.Items.{accuracy_for}
use Rattle.description.specs.Facts.{basis_of}
use Rattle.header_writer.specs.Written.{accuracy_text, datum_text, item_text, text_for}
use Rattle.description.specs.declared.Accuracy.{Accuracy}
use Rattle.description.specs.declared.Accuracy.TheVariants.{Metres, Unknown}
use Rattle.description.specs.declared.Datum.{Datum}
use Rattle.description.specs.declared.Datum.TheVariants.{Msl, E96}
use Rattle.description.specs.declared.Description.{Description}
use Rattle.fields.specs.declared.Item.{Item}
use Rattle.fields.specs.declared.Item.TheVariants as item
use Rattle.fields.specs.declared.Kind.{Kind}
use Rattle.fields.specs.declared.Kind.TheVariants as kind

length_accuracy : (a : Accuracy) → length (accuracy_text a) ≡ 4
length_accuracy (Metres m) = length_digits 4 m
length_accuracy Unknown = refl

length_datum : (v : Datum) → length (datum_text v) ≡ 3
length_datum Msl = refl
length_datum E96 = refl

length_item : (i : Item) (d : Description) → length (item_text i d) ≡ item_width i
unfolding item_text
length_item item.Level d = length_digits 4 (basis_of d).grid.interval.latitude
length_item item.Latitude d = length_angle origin_form northward d.latitude
length_item item.Longitude d = length_angle origin_form eastward d.longitude
length_item item.Security d = refl
length_item item.Edition d = length_digits 2 d.edition
length_item item.Version d = refl
length_item item.Datum d = length_datum d.datum
length_item (item.Accuracy whose) d = length_accuracy (accuracy_for whose d)
length_item item.Partial d = length_digits 2 d.partial

pub length_text : (k : Kind) (d : Description) → length (text_for k d) ≡ width_of k
length_text (kind.Item i) d = length_item i d
length_text (kind.Due k) d = length_due k (basis_of d)
