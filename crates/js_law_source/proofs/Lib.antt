mod Back
mod BackTrees
mod ReadScripts
