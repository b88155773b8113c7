mod SpaceSteps
