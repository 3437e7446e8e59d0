use Rattle.std.proofs.Common.{◌∙◌, ◌≡◌, ◌<◌, sym, arith, length, get_or, drop, [], Some, None}
use Rattle.std.proofs.lemmas.List.{drop_all}
use Rattle.csv.specs.Records.{fields_of}
use Rattle.csv_load.specs.Columns.{needed_names, place_from, places_in}
use Rattle.csv_load.proofs.Sizes.{apart-within}
use Rattle.csv_load.proofs.Names.{needed-different, needed-name, places-all, places-apart, needed-most, places-end, places-none}
use Rattle.csv_load.proofs.Names.{places-start, places-step, places-within}
use Rattle.csv_load.proofs.columns.find_columns.Goals as goal

pub names-preserved : goal.names-preserved
names-preserved c =
    let names = needed_names c.args.has_op c.args.schema.now in
    let lt : c.names.column < length names = omega (arith, c.needed_count-count.ensures.count) in
    let here : place_from 0 (get_or names c.names.column []) (fields_of c.args.header.now) ≡ Some c.in-Some.place
    = rw (needed-name c.args.has_op c.args.schema.now c.names.column lt)
    (rw c.needed_name.ensures at (sym c.in-Some.ensures)) in
    rw c.in_ok-push.ensures.items
    (sym (places-step (fields_of c.args.header.now) names c.names.places.items c.names.column c.in-Some.place lt
    here) ∙ c.names.invariant)

pub returns-clause-are : goal.returns-clause-are
returns-clause-are c =
    let header = fields_of c.args.header.now in
    let names = needed_names c.args.has_op c.args.schema.now in
    let end : drop c.names.column names ≡ []
    = drop_all c.names.column names (omega (arith, c.needed_count-count.ensures.count)) in
    let is : places_in header names ≡ Some c.names.places.items = sym (rw end at c.names.invariant)
    ∙ places-end header c.names.places.items in
    let all = places-all header names c.names.places.items is in
    record {
      all = all;
      size
          = λ fields. apart-within c.names.places.items fields
          (places-apart header names c.names.places.items is
          (needed-different c.args.has_op c.args.schema.now c.needed_count-count.ensures.layout));
      within
          = rw c.len-width.ensures (places-within header names c.names.places.items is);
    }

pub names-init : goal.names-init
names-init c = places-start (fields_of c.args.header.now) (needed_names c.args.has_op c.args.schema.now)
    c.in_ok-places.places.items c.in_ok-places.ensures.items

pub needed_name-requires : goal.needed_name-requires
needed_name-requires c =
    let most = needed-most c.args.has_op c.args.schema.now in
    omega (arith, c.needed_count-count.ensures.count, most, c.names-test.true)

pub returns-in_default-clause-found : goal.returns-in_default-clause-found
returns-in_default-clause-found c =
    let header = fields_of c.args.header.now in
    let names = needed_names c.args.has_op c.args.schema.now in
    let lt : c.names.column < length names = omega (arith, c.needed_count-count.ensures.count) in
    let none : place_from 0 (get_or names c.names.column []) header ≡ None
    = rw (needed-name c.args.has_op c.args.schema.now c.names.column lt)
    (rw c.needed_name.ensures at (sym c.in_default.ensures)) in
    sym (places-none header names c.names.places.items c.names.column lt none) ∙ c.names.invariant

pub returns-clause-found : goal.returns-clause-found
returns-clause-found c =
    let header = fields_of c.args.header.now in
    let names = needed_names c.args.has_op c.args.schema.now in
    let end : drop c.names.column names ≡ []
    = drop_all c.names.column names (omega (arith, c.needed_count-count.ensures.count)) in
    sym (places-end header c.names.places.items) ∙ rw end at c.names.invariant
