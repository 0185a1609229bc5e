use Rattle.js_native_calls.proofs.errors.error_text.Goals as goal

pub returns-in-Undefined : goal.returns-in-Undefined
returns-in-Undefined c = rw c.in-Undefined.is c.type_error.ensures

pub returns-in-Null : goal.returns-in-Null
returns-in-Null c = rw c.in-Null.is c.type_error-in-Null.ensures

pub returns-in-Bool : goal.returns-in-Bool
returns-in-Bool c = rw c.in-Bool.is c.type_error-in-Bool.ensures

pub returns-in-Number : goal.returns-in-Number
returns-in-Number c = rw c.in-Number.is c.type_error-in-Number.ensures

pub returns-in-Text : goal.returns-in-Text
returns-in-Text c = rw c.in-Text.is c.type_error-in-Text.ensures

pub returns-in-Object : goal.returns-in-Object
returns-in-Object c = rw c.in-Object.is c.text_of_error.ensures
