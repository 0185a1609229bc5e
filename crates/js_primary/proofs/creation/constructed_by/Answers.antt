use Rattle.js_primary.proofs.creation.constructed_by.Goals as goal

pub returns-in-Function : goal.returns-in-Function
returns-in-Function c = rw c.in-Function.is c.construct.ensures

pub returns-in-Native : goal.returns-in-Native
returns-in-Native c = rw c.in-Native.is c.native_constructed.ensures

pub returns-in-Plain : goal.returns-in-Plain
returns-in-Plain c = rw c.in-Plain.is c.type_error.ensures

pub returns-in-Array : goal.returns-in-Array
returns-in-Array c = rw c.in-Array.is c.type_error-in-Array.ensures

pub returns-in-Error : goal.returns-in-Error
returns-in-Error c = rw c.in-Error.is c.type_error-in-Error.ensures

pub returns-in-Pattern : goal.returns-in-Pattern
returns-in-Pattern c = rw c.in-Pattern.is c.type_error-in-Pattern.ensures
